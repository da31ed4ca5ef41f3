-- What is drawn of a leader: `leader_drawn` satisfies the paper's words, and nothing else does.
--     drawn_is;  straight_one, bent_one;  draw_answers: what Draw then answers;  bent_sheet, straight_sheet: J5's
use Rattle.std.specs.Prelude.{◌≡◌, refl, Bool, true, false, List, ℕ, ◌+◌, ◌-◌, ◌^◌, ◌≤◌, ◌<◌, length, get_or, drop, pos, negsuc, neg_ℤ, nat_abs, ℤ, Float, Ok, Err}
use Rattle.std.proofs.Common.{sym, ◌∙◌, zero-le, le_trans, le_of_eq, lt_of_le_of_lt, arith, eq-eqb, ne_eqb, lit<, get_or-append-add, get_or-drop}
use Rattle.std.proofs.Math.Path.{ap}
use Rattle.std.proofs.Math.Bool.{cond}
use Rattle.std.proofs.Math.ListN.{get_or-append}
use Rattle.std.proofs.Math.IntN.{ℤ_discrete}
use Rattle.std.specs.Float.{fin}
use Rattle.std.specs.Float.Ieee.{round}
use Rattle.numbers.proofs.Signs.{nat_abs_neg, apart_zero, zero_apart}
use Rattle.paper.specs.declared.Polyline.TheVariants.{Straight, Bent}
use Rattle.paper.specs.declared.Point.{Point}
use Rattle.paper.specs.Answers.{Drawn}
use Rattle.paper.specs.Job.{records, x_of, y_of, port_of, twos}
use Rattle.paper.specs.Leaders.{Leader, distance}
use Rattle.paper.specs.Layouts.{board_of, leader}
use Rattle.paper.specs.Refusals.{Passed, draw_trials}
use Rattle.paper.specs.Promises.{overwritten, DrawAnswers}
use Rattle.paper.specs.Canvas.{StandsFor, DrawnStraight, DrawnBent, Draws, coordinates}
use Rattle.paper.specs.Sheets.{J5}
use Rattle.paper.proofs.laws.Accepted.{draw_accepted}
use Rattle.paper.specs.laws.Quarter.{quarter}
use Rattle.paper.proofs.laws.Quarter.{quarter_is, four_times_one}
use Rattle.paper.specs.laws.Drawn.{canvas, two_of, three_of, by_bend, leader_drawn, OnSheet}

module _ {A : Type 0} (l : Leader) (straight bent : A) where
  pub by_level : l.y ≡ l.port → by_bend l straight bent ≡ straight
  unfolding by_bend
  by_level e = ap (λ (b : Bool). cond b straight bent) (eq-eqb (distance l.y l.port) 0 (zero_apart l.y l.port e))

  pub by_bend_lem : (l.y ≡ l.port → ⊥) → by_bend l straight bent ≡ bent
  unfolding by_bend
  by_bend_lem n = ap (λ (b : Bool). cond b straight bent) (ne_eqb (distance l.y l.port) 0 (λ e. n (apart_zero l.y l.port e)))

pub level_drawn : (l : Leader) → l.y ≡ l.port → leader_drawn l ≡ Ok (two_of l)
unfolding leader_drawn
level_drawn l = by_level l (Ok (two_of l)) (Ok (three_of l))

pub bend_drawn : (l : Leader) → (l.y ≡ l.port → ⊥) → leader_drawn l ≡ Ok (three_of l)
unfolding leader_drawn
bend_drawn l = by_bend_lem l (Ok (two_of l)) (Ok (three_of l))

-- ---- the paper's words

small : {n : ℕ} → n ≤ 1000000 → n < 2 ^ 24
small h = lt_of_le_of_lt h (lit< tt)

canvas_is : (x : ℕ) (y : ℤ) → x ≤ 1000000 → nat_abs y ≤ 1000000 → StandsFor (canvas x y) x y
unfolding canvas
canvas_is x y h k = record { across = quarter_is (pos x) (small h); down = quarter_is (neg_ℤ y) (small (le_trans (le_of_eq (nat_abs_neg y)) k)) }

-- What is drawn of a leader draws it.
pub drawn_is : (l : Leader) → OnSheet l → Draws l (leader_drawn l)
drawn_is l h = go (ℤ_discrete l.y l.port)
  where
    pad : StandsFor (canvas l.x l.y) l.x l.y
    pad = canvas_is l.x l.y h.right h.pad

    port : StandsFor (canvas 0 l.port) 0 l.port
    port = canvas_is 0 l.port zero-le h.port

    go : Dec (l.y ≡ l.port) → Draws l (leader_drawn l)
    go (yes e) = rw (level_drawn l e) (record { level = e; pad = pad; port = port })
    go (no n) = rw (bend_drawn l n) (record { bends = n; pad = pad; bend = canvas_is l.x l.port h.right h.port; port = port })

-- ---- they leave one answer

-- Two points that stand for one point of the sheet are one.
point_one : {a b : Point} (x : ℕ) (y : ℤ) → StandsFor a x y → StandsFor b x y → a ≡ b
point_one x y p q =
    let across = four_times_one (pos x) p.across q.across in
    let down = four_times_one (neg_ℤ y) p.down q.down in
    λ i. record { x = across i; y = down i }

-- Two that draw a leader straight are one, and so are two that draw it bent.
pub straight_one : (l : Leader) {a c d f : Point} → DrawnStraight l a c → DrawnStraight l d f → ◌≡◌ {A = Drawn} (Ok (Straight a c)) (Ok (Straight d f))
straight_one l p q =
    let pad = point_one l.x l.y p.pad q.pad in
    let port = point_one 0 l.port p.port q.port in
    λ i. Ok (Straight (pad i) (port i))

pub bent_one : (l : Leader) {a b c d e f : Point} → DrawnBent l a b c → DrawnBent l d e f → ◌≡◌ {A = Drawn} (Ok (Bent a b c)) (Ok (Bent d e f))
bent_one l p q =
    let pad = point_one l.x l.y p.pad q.pad in
    let bend = point_one l.x l.port p.bend q.bend in
    let port = point_one 0 l.port p.port q.port in
    λ i. Ok (Bent (pad i) (bend i) (port i))

-- ---- the call Draw

-- A Draw that passes its trials has a leader within the ranges.
pub passed_on_sheet : (job : List ℕ) (i q room : ℕ) → Passed (draw_trials job i q room) → OnSheet (leader (board_of (records job)) i q)
passed_on_sheet job i q room p =
    let a = draw_accepted job i q room p in
    record { right = a.0.width i a.2; pad = a.0.pad i a.2; port = a.0.port q a.3 }

-- What is written fills the first places, and the places after those keep their content.
pub overwritten_is : {A : Type 0} (cs before : List A) (k : ℕ) (d : A)
    → (k < length cs → get_or (overwritten cs before) k d ≡ get_or cs k d) × (length cs ≤ k → get_or (overwritten cs before) k d ≡ get_or before k d)
overwritten_is cs before k d = (get_or-append cs (drop (length cs) before) d k, late)
  where
    late : length cs ≤ k → get_or (overwritten cs before) k d ≡ get_or before k d
    late h =
        let e : k ≡ length cs + (k - length cs) = omega arith in
        ap (λ (m : ℕ). get_or (overwritten cs before) m d) e ∙ get_or-append-add cs (drop (length cs) before) (k - length cs) d
        ∙ get_or-drop (length cs) before (k - length cs) d ∙ ap (λ (m : ℕ). get_or before m d) (sym e)

-- A drawn leader has at most six coordinates.
pub coordinates_few : (d : Drawn) → length (coordinates d) ≤ 6
coordinates_few (Ok (Straight p q)) = omega arith
coordinates_few (Ok (Bent p m q)) = omega arith
coordinates_few (Err r) = omega arith

-- What draws the leader is Draw's answer, with its coordinates in the lent list.
pub draw_answers : (job : List ℕ) (i q : ℕ) (before : List Float) (d : Drawn) → Passed (draw_trials job i q (length before))
    → Draws (leader (board_of (records job)) i q) d → DrawAnswers job i q before d (overwritten (coordinates d) before)
draw_answers job i q before (Ok (Straight a c)) p w = (p, w, refl)
draw_answers job i q before (Ok (Bent a b c)) p w = (p, w, refl)
draw_answers job i q before (Err _) p w = elim w [ ]

-- ---- the paper's two sheets

abbrev at : Float → Float → Point
at x y = record { x = x; y = y }

-- +0, and 2.5 and 7.5 with a sign
abbrev nought : Float
nought = fin false 0 (pos 0)

abbrev halves : Bool → ℕ → Float
halves s n = fin s n (negsuc 0)

-- J5, record 2 to port 0: (7.5, -7.5), (7.5, 0), (0, 0)
pub bent_sheet : leader_drawn (leader (board_of (records J5)) 2 0)
    ≡ Ok (Bent (at (halves false 15) (halves true 15)) (at (halves false 15) nought) (at nought nought))
unfolding leader_drawn by_bend canvas quarter round x_of y_of port_of twos
bent_sheet = refl

-- J5, record 0 to port 1: (2.5, -2.5), (0, -2.5)
pub straight_sheet : leader_drawn (leader (board_of (records J5)) 0 1)
    ≡ Ok (Straight (at (halves false 5) (halves true 5)) (at nought (halves true 5)))
unfolding leader_drawn by_bend canvas quarter round x_of y_of port_of twos
straight_sheet = refl
