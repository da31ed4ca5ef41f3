-- STRAIGHTENING COSTS NO LENGTH. Where pads are points, for bend weight 0 a best layout is the least of all layouts, touching or not; with a bend weight, a table or
-- a square it need not be.
--
--     best_of_all, straightening_costs_no_length, bends_can_cost, tables_can_cost, squares_can_cost
use Rattle.std.specs.Prelude.{◌≡◌, refl, ◌≢◌, List, [], ◌∷◌, ℕ, zero, suc, ◌+◌, ◌*◌, ◌<◌, length, pos, Some, None, Ok}
use Rattle.std.proofs.Common.{sym, ap, ◌∙◌, inl, inr, mul-le-mul_left, arith}
use Rattle.std.proofs.Math.Decide.{ℕ_discrete}
use Rattle.numbers.proofs.Whole.{whole}
use Rattle.paper.specs.Answers.{Work}
use Rattle.paper.specs.Job.{Job, records, last_of, twos, name_of, half_of, x_of, y_of, port_of}
use Rattle.paper.specs.Leaders.{length_of, bends_of}
use Rattle.paper.specs.Layouts.{Board, board_of, held, Touching, EachOnce, Untouching, sum, Badness, by_weights, by_table, weighted, cost_of, total, Proper, Same}
use Rattle.paper.specs.Problem.{Best, labeling}
use Rattle.paper.specs.Refusals.{Passed, sound_trials, calls_of}
use Rattle.paper.specs.Sheets.{level_pad, crossing_pays, copper}
use Rattle.paper.specs.Straightening.{LeastOfAll, CostsNothing, Costs, BendsCanCost, TablesCanCost, SquaresCanCost}
use Rattle.paper.specs.Points.{Points}
use Rattle.paper.specs.laws.Tests.{somewhere, outside, job_tests, sound_tests}
use Rattle.paper.specs.laws.Totals.{total_of}
use Rattle.paper.proofs.laws.Totals.{total_is}
use Rattle.paper.proofs.laws.Boards.{layout_iff, layout_same, untouching_same, total_same}
use Rattle.paper.specs.laws.Decided.{sound_tests_of}
use Rattle.paper.proofs.laws.Decided.{tests_pass, sound_tests_lem}
use Rattle.paper.proofs.laws.Existence.{straight_total, points_exist}
use Rattle.paper.proofs.laws.Squares.{points_apart}
use Rattle.paper.specs.laws.Accepted.{Fair}
use Rattle.paper.proofs.laws.Accepted.{fair_iff, sound_accepted, first_sound, first_passed}
use Rattle.paper.proofs.laws.Numbers.{total-told, numbered}
use Rattle.paper.proofs.laws.Regular.{regular}
use Rattle.paper.proofs.laws.Met.{first_made}
use Rattle.paper.proofs.laws.Worked.{copper-first}

-- THEOREM. For bend weight 0 no layout at all has a smaller total than a best one: on every board whose pads are points that differ in x and whose ports rise, and
-- are at least as many as the pads.
pub best_of_all : (b : Board) → Proper b → Points b → (lw : ℕ) (f : ℕ → ℕ) → Best (labeling b (weighted b lw 0)) f
    → LeastOfAll b (weighted b lw 0) (total b (weighted b lw 0) f)
best_of_all b proper points lw f best g layout =
    let (h, apart, shorter) = straight_total b proper g layout in
    omega (arith, best.least h ((points_apart b points h).1 apart), total_is b lw 0 h, total_is b lw 0 g, mul-le-mul_left lw shorter)

-- THEOREM. For every accepted job of either form whose half-sides are all 0, and every length weight, with bend weight 0, no layout at all has a smaller total than
-- First answers.
pub straightening_costs_no_length : (job : Job) → Points (board_of job) → (lw : ℕ) (work : Work) → CostsNothing job (by_weights lw 0) work
straightening_costs_no_length job points lw work before after t promise list layout =
    let bad = by_weights lw 0 in
    let (passed, first, is, kept) = total-told (calls_of job bad work) (numbered job bad work) before after t promise in
    let accepted = (sound_accepted job bad work (length before) (first_sound job bad work (length before) passed)).0 in
    let on = board_of job in
    let (h, apart, shorter) = straight_total on accepted.proper list layout in
    let least = first.best.least h ((points_apart on points h).1 apart) in
    omega (arith, is, least, total_is on lw 0 h, total_is on lw 0 list, mul-le-mul_left lw shorter)

-- ---- with a bend weight

-- The example's board, the layout whose leaders touch, and the other one.
abbrev b : Board
b = board_of (records level_pad)

abbrev crossed : List ℕ
crossed = 0 ∷ 1 ∷ []

abbrev uncrossed : List ℕ
uncrossed = 1 ∷ 0 ∷ []

-- The two layouts have the same lengths, and the second has a bend more.
crossed-total : (lw bw : ℕ) → total b (weighted b lw bw) (held crossed) ≡ lw * 50 + bw * 1
unfolding sum length_of bends_of x_of y_of port_of twos
crossed-total lw bw = total_is b lw bw (held crossed)

uncrossed-total : (lw bw : ℕ) → total b (weighted b lw bw) (held uncrossed) ≡ lw * 50 + bw * 2
unfolding sum length_of bends_of x_of y_of port_of twos
uncrossed-total lw bw = total_is b lw bw (held uncrossed)

crossed_once : (b : Board) → b.pads ≡ 2 → b.ports ≡ 2 → EachOnce b (held crossed)
crossed_once b two both =
    (layout_iff b (held crossed) (both ∙ sym two)).0 (layout_same b (λ i. i) (held crossed) same (record { inside = λ i l. omega arith; own = λ i j l k. omega arith }))
  where
    same : Same b (λ i. i) (held crossed)
    same zero l = refl
    same (suc zero) l = refl
    same (suc (suc i)) l = absurd (omega arith)

-- At (10, 10) the arm of record 1 crosses the hand of record 0.
crossed_touch : Touching b (held crossed) 1 0
unfolding x_of y_of port_of twos
crossed_touch = inl (record { x = 10; y = pos 10 }, inr (refl, omega arith), inl (refl, inr (omega whole, omega whole)))

-- So untouching leaders go the other way.
only_uncrossed : (f : ℕ → ℕ) → Untouching b f → Same b f (held uncrossed)
only_uncrossed f u = go (ℕ_discrete (f 0) 0) (u.layout.inside 0 (omega arith)) (u.layout.inside 1 (omega arith)) (u.layout.own 1 0 (omega arith) (omega arith))
  where
    pair : (w : List ℕ) → f 0 ≡ held w 0 → f 1 ≡ held w 1 → Same b f (held w)
    pair w e d zero l = e
    pair w e d (suc zero) l = d
    pair w e d (suc (suc i)) l = absurd (omega arith)

    go : Dec (f 0 ≡ 0) → f 0 < 2 → f 1 < 2 → f 1 ≢ f 0 → Same b f (held uncrossed)
    go (yes e) h k n = absurd ((untouching_same b f (held crossed) (pair crossed e (omega arith)) u).apart 1 0 (omega arith) (omega arith) crossed_touch)
    go (no e) h k n = pair uncrossed (omega arith) (omega arith)

-- The job is accepted, whatever fair weights or table are given.
sound : Passed (sound_trials (records level_pad) (by_weights 0 0) None 2)
unfolding somewhere outside job_tests sound_tests twos name_of half_of x_of y_of last_of port_of
sound =
    let job = records level_pad in
    tests_pass (sound_tests_of job (by_weights 0 0) None 2) (sound_trials job (by_weights 0 0) None 2) (sound_tests_lem job (by_weights 0 0) None 2) tt

-- Its pads are points.
all_points : Points b
unfolding half_of
all_points zero l = refl
all_points (suc zero) l = refl
all_points (suc (suc i)) l = absurd (omega arith)

-- So First answers the total of the layout that does not touch.
costs_more : (bad : Badness) → Fair b bad → (t u : ℕ) → t ≡ total_of b bad uncrossed → u ≡ total_of b bad crossed → u < t
    → Costs level_pad bad t crossed u
costs_more bad fair t u is sums less =
    let passed : Passed (sound_trials (records level_pad) bad None 2) = (sound.0, ((fair_iff b bad).1 fair, sound.1.1)) in
    let exists = points_exist b (sound_accepted (records level_pad) bad None 2 passed).0.proper all_points in
    let (v, after, answers) = first_made (calls_of (records level_pad) bad None) (regular (records level_pad) bad None) (9 ∷ 9 ∷ [])
    (first_passed (records level_pad) bad None 2 passed (λ none. none exists.0 exists.1)) in
    let same = answers.2 ∙ total_same b (cost_of b bad) (held after) (held uncrossed) (only_uncrossed (held after) answers.1.best.counts) in
    record {
      first = (9 ∷ 9 ∷ [], after, (Ok (Some v), answers, ap pos (is ∙ sym same)));
      once = crossed_once b refl refl;
      touch = (1, 0, omega arith, omega arith, crossed_touch);
      sums = sums;
      smaller = less;
    }

-- THEOREM. With a bend weight untouching leaders can cost more, whatever the length weight is; and with a table.
pub bends_can_cost : BendsCanCost
bends_can_cost lw bw h k bends =
    costs_more (by_weights lw bw) (h, k) (50 * lw + 2 * bw) (50 * lw + bw) (omega (arith, uncrossed-total lw bw)) (omega (arith, crossed-total lw bw)) (omega arith)

pub tables_can_cost : TablesCanCost
unfolding sum
tables_can_cost = costs_more (by_table crossing_pays) refl 2 0 refl refl (omega arith)

-- At (14, 20) the arm of record 1 comes into the square of record 0; the other way round the leaders are longer.
copper_touch : Touching (board_of (records (copper 4))) (held crossed) 1 0
unfolding x_of y_of half_of port_of twos
copper_touch = inr (inl (record { x = 14; y = pos 20 }, inr (refl, omega arith), (omega arith, omega arith)))

pub squares_can_cost : SquaresCanCost
unfolding sum weighted length_of bends_of x_of y_of port_of twos
squares_can_cost = record {
  first = (9 ∷ 9 ∷ [], 1 ∷ 0 ∷ [], (Ok (Some 84), copper-first, refl));
  once = crossed_once (board_of (records (copper 4))) refl refl;
  touch = (1, 0, omega arith, omega arith, copper_touch);
  sums = refl;
  smaller = omega arith;
}
