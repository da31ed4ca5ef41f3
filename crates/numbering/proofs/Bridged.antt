-- From the search's words to the paper's: its places and its number of best layouts are those of the board.
use mathlib.Core.Path.{◌≡◌, refl, sym, subst, ap, ◌∙◌}
use mathlib.Core.List.{List, ◌++◌}
use Prim.Native.Nat.{ℕ, zero, suc, ◌+◌, ◌*◌, ◌^◌, ◌≤◌, ◌<◌}
use native.Mathlib.Omega.{arith}
use lib.ListN.{length, get_or, take, drop, get_or-append, length-append, length-drop}
use lib.Seq.{length-take-le, get_or-take}
use Rattle.numbers.specs.Arrangement.{Arrangement}
use Rattle.std.specs.Prelude.{Ok, Err}
use Rattle.pads.specs.Pads.{Pads}
use Rattle.strips.specs.Grid.{Grid}
use Rattle.strips.specs.Least.{Least}
use Rattle.ways.specs.Place.{AtPlace, HowMany}
use Rattle.totals.specs.Cell.{figures, grid_of, corner_of, Table, least_of}
use Rattle.totals.proofs.Corners.{corner_step}
use Rattle.counting.specs.declared.NoPlace.{NoPlace}
use Rattle.counting.specs.declared.NoPlace.TheVariants.{Past as NotBelow, TooMany as Above}
use Rattle.counting.specs.Counting.{costed, Ready, CountIs, FoundIs, PlaceIs}
use Rattle.counting.specs.Counting as counting
use Rattle.counting.proofs.Buffers.{room_enough, base_few}
use Rattle.choices.specs.Source.{Source, source, grid_on, full_grid, Right}
use Rattle.steps.specs.Steps.{Solvable}
use Rattle.steps.proofs.Whole.{none_solvable, some_solvable}
use Rattle.order.specs.Falling.{OrderOf}
use Rattle.paper.specs.Job.{records, count, x_of}
use Rattle.paper.specs.Layouts.{Board, board_of, held, figure}
use Rattle.paper.specs.Problem.{Problem, Best, PlaceBest, CountBest, labeling}
use Rattle.paper.specs.laws.Accepted.{AcceptedJob}
use Rattle.paper.proofs.laws.Places.{place_best}
use Rattle.paper.specs.Refusals.{NoLayout, limit, buffer_needed}
use Rattle.board.specs.Lists.{ListsOf, SidesOf, CostsOn}
use Rattle.board.specs.Bars.{BarsOf}
use Rattle.board.specs.Bridge.{even_pads, proper, untouching_sol, sol_untouching, first_best, next_best, last_best}
use Rattle.layouts.proofs.Translated.{says, stacked_costs, stacked_right, stacked_least}
use Rattle.numbering.specs.declared.Lent.{Lent}
use Rattle.numbering.specs.declared.Why.{Why}
use Rattle.numbering.specs.declared.Why.TheVariants.{NoLayout as NothingCounts, Short, TooMany, Past}
use Rattle.numbering.specs.Outcomes.{Stacked, LentOn, why_of, CountOn, PlaceOn}

module _ (b : Board) {cs bs order lo hi : List ℕ} {t : ℕ} (even : b.ports ≡ b.pads) (K : Stacked b cs bs order lo hi t) where
  abbrev p : Problem
  p = labeling b (figure b cs)

  abbrev T : Source
  T = source K.heads K.totals cs bs (length order)

  pub many_pads : length order ≡ b.pads
  many_pads = K.lists.listed.arranged.long

  -- The lists are those of a proper board.
  pub proper_lists : Pads order lo hi (length order) × Arrangement (length order) order
  proper_lists = (even_pads K.lists even, rw many_pads K.lists.listed.arranged)

  costs : CostsOn b (figure b cs) T
  costs = stacked_costs b K.lists even K.bars K.table

  some_heads : length K.heads ≡ 0 → ⊥
  some_heads e = omega (arith, K.table.sizes.heads)

  right : Right order T lo hi
  right = stacked_right b K.lists even K.bars K.table

  -- The board of the table is that of the search.
  abbrev grid : grid_on order T lo hi ≡ grid_of order cs bs lo hi
  grid = full_grid order T lo hi some_heads

  -- ---- whether there is a layout

  pub no_layout : 2 ^ 62 ≤ t → NoLayout p
  no_layout h f u =
      none_solvable (proper K.lists costs) t (stacked_least b K.lists even K.bars K.table t K.least) right h
      (f, untouching_sol K.lists costs f u)

  solvable : t < 2 ^ 62 → Solvable order T lo hi
  solvable h = some_solvable (proper K.lists costs) t (stacked_least b K.lists even K.bars K.table t K.least) right h

  pub some_layout : t < 2 ^ 62 → (f : ℕ → ℕ) × p.Counts f
  some_layout h = let s = solvable h in (s.0, sol_untouching K.lists costs s.0 s.1)

  -- ---- places, and how many

  at_place : (k : ℕ) (f : ℕ → ℕ) → AtPlace (grid_on order T lo hi) order (length order) k f → PlaceBest p k f
  unfolding AtPlace
  at_place zero f e = first_best K.lists costs f e
  at_place (suc k) f (g, s, n) = (g, at_place k g s, next_best K.lists costs g f n)

  pub place_is : (k : ℕ) (f : ℕ → ℕ) → AtPlace (grid_of order cs bs lo hi) order (length order) k f → PlaceBest p k f
  place_is k f s = at_place k f (subst (λ (B : Grid). AtPlace B order (length order) k f) (sym grid) s)

  pub count_is : (c : ℕ) → HowMany (grid_of order cs bs lo hi) order (length order) c → CountBest p c
  count_is c h = many (subst (λ (B : Grid). HowMany B order (length order) c) (sym grid) h)
    where
      many : HowMany (grid_on order T lo hi) order (length order) c → CountBest p c
      many n = record {
        last = n.last;
        layout = n.layout;
        at = at_place n.last n.layout n.at;
        end = last_best K.lists costs n.layout n.end;
        more = n.more;
      }

  -- Every best layout has the least total.
  pub value_is : (w : List ℕ) → Best p (held w) → t ≡ p.value (held w)
  value_is w s = (says b K.lists costs).least t (stacked_least b K.lists even K.bars K.table t K.least) w s

-- ---- lending

-- A buffer whose front is copied is as long as it was, ..
pub front_long : (s : ℕ) (from front before : List ℕ) → s ≤ length from → front ≡ take s from → s ≤ length before → length (front ++ drop s before) ≡ length before
front_long s from front before h e k =
    let l : length front ≡ s = ap length e ∙ length-take-le s from h in
    simp (length-append, length-drop) (omega arith)

-- .. and has the entries.
pub front_copied : (s : ℕ) (from front rest : List ℕ) → s ≤ length from → front ≡ take s from → (i : ℕ) → i < s → get_or (front ++ rest) i 0 ≡ get_or from i 0
front_copied s from front rest h e i l =
    let k : i < length front = rw (e, length-take-le s from h) l in
    get_or-append front rest 0 i k ∙ ap (λ (xs : List ℕ). get_or xs i 0) e ∙ get_or-take s from i 0 l

-- The lists that are worked out for a job's board, with its bars and a table.
pub record Listing (job order lo hi : List ℕ) : Type 0 where
  pub accepted : AcceptedJob (records job)
  pub falling : OrderOf (count job) (x_of job) order
  pub around : SidesOf (board_of (records job)) lo hi

module _ {job order lo hi : List ℕ} (A : Listing job order lo hi) where
  pub job_lists : ListsOf (board_of (records job)) order lo hi
  job_lists = record {
    proper = A.accepted.proper;
    few = A.accepted.few;
    slots_few = A.accepted.slots_few;
    listed = A.falling;
    sides = A.around;
  }

  pub job_pads : length order ≡ count job
  job_pads = job_lists.listed.arranged.long

  pub job_few : length order ≤ 64
  job_few = omega (arith, job_pads, A.accepted.few)

  pub job_even : Pads order lo hi (length order)
  job_even = even_pads job_lists refl

  pub job_stacked : {cs bs heads totals : List ℕ} {t : ℕ} → BarsOf (board_of (records job)) bs → Table order cs bs lo hi heads totals
      → t ≡ least_of order cs bs lo hi → Stacked (board_of (records job)) cs bs order lo hi t
  job_stacked {heads = heads} {totals = totals} barred T is = record {
    lists = job_lists;
    bars = barred;
    heads = heads;
    totals = totals;
    table = T;
    least = is;
  }

  pub job_arranged : Arrangement (length order) order
  job_arranged = rw job_pads job_lists.listed.arranged

  -- The sets of ports of the table are a part of the room, and of a buffer that is long enough.
  module _ (n corner : ℕ) (e : n ≡ count job) (is : corner ≡ corner_of n) where
    pub strips_room : corner + n + 1 ≤ 2145
    strips_room = omega (arith, corner_step n, base_few n (omega (arith, A.accepted.few)))

    pub strips_all : corner + n + 1 ≡ corner_of (length order + 1)
    strips_all = let f : length order ≡ n = omega (arith, job_pads) in rw f (omega (arith, corner_step n))

    pub strips_lent : (numbers : ℕ) → buffer_needed n ≤ numbers → corner + n + 1 ≤ numbers
    strips_lent numbers enough = omega (arith, corner_step n, room_enough n)

-- What is lent.
module _ (b : Board) (even : b.ports ≡ b.pads) (cs lent left : List ℕ) {p : Lent} (M : LentOn b cs lent left (Ok p)) where
  abbrev order : List ℕ
  order = p.lists.order.now

  K : Stacked b cs M.2.bars order p.lists.lo.now p.lists.hi.now p.least
  K = M.2.stacked

  abbrev costs_lent : ℕ → ℕ → Least
  costs_lent = figures cs M.2.bars (length order)

  pub same_n : length order ≡ b.pads
  same_n = many_pads b even K

  -- what counting asks for
  pub ready : Ready p.lists costs_lent left
  ready = record { marked = M.2.marked; solvable = subst (λ (B : Grid). counting.Solvable B order) (grid b even K) (solvable b even K M.2.some) }

  pub room : 2 * ((length order + 2) * (length order + 2)) ≤ length left
  room = rw same_n (omega (arith, M.0.enough, M.1))

  -- COUNT, in the paper's words, whatever the buffer then has
  module _ (used : List ℕ) (c : ℕ) (all : (C : ℕ → ℕ → Least) → Ready p.lists C left → CountIs (costed p.lists C) order c) where
    C : CountIs (costed p.lists costs_lent) order c
    C = all costs_lent ready

    is : CountBest (labeling b (figure b cs)) C.number
    is = count_is b even K C.number C.is

    pub counted : c ≤ limit → CountOn (labeling b (figure b cs)) lent used (Ok c)
    counted h = let same : C.number ≡ c = omega (arith, C.told) in (M.0, rw same at is, h)

    pub too_many : limit < c → CountOn (labeling b (figure b cs)) lent used (Err TooMany)
    too_many h = (M.0, (C.number, is, omega (arith, C.told)))

  -- PLACE
  module _ (k : ℕ) (before after used : List ℕ) where
    pub placed : ((C : ℕ → ℕ → Least) → Ready p.lists C left → FoundIs (costed p.lists C) order before k after)
        → PlaceOn (labeling b (figure b cs)) k before after lent used (Ok p.least)
    placed all = (
      M.0,
      (F.number, count_is b even K F.number F.is, F.few, F.inside),
      at,
      value_is b even K after (place_best (labeling b (figure b cs)) k (held after) at),
      record { long = F.kept.long; rest = λ i h. F.kept.rest i (omega (arith, same_n)) },
    )
      where
        F : FoundIs (costed p.lists costs_lent) order before k after
        F = all costs_lent ready

        at : PlaceBest (labeling b (figure b cs)) k (held after)
        at = place_is b even K k (held after) F.at

    pub not_placed : (e : NoPlace) → ((C : ℕ → ℕ → Least) → Ready p.lists C left → PlaceIs (costed p.lists C) order before k after (Err e))
        → PlaceOn (labeling b (figure b cs)) k before after lent used (Err (why_of e))
    not_placed NotBelow all = let F = all costs_lent ready in (M.0, (F.number, count_is b even K F.number F.is, F.few, F.past), F.same)
    not_placed Above all = let F = all costs_lent ready in (M.0, (F.number, count_is b even K F.number F.is, F.above), F.same)

-- Where nothing is lent, nothing is told.
module _ (b : Board) (cs lent left : List ℕ) (w : Why) (N : LentOn b cs lent left (Err w)) where
  pub not_counted : CountOn (labeling b (figure b cs)) lent left (Err w)
  not_counted = go w N
    where
      go : (w : Why) → LentOn b cs lent left (Err w) → CountOn (labeling b (figure b cs)) lent left (Err w)
      go NothingCounts l = l
      go Short l = l
      go TooMany l = absurd l
      go Past l = absurd l

  pub not_lent : (k : ℕ) (list : List ℕ) → PlaceOn (labeling b (figure b cs)) k list list lent left (Err w)
  not_lent k list = go w N
    where
      go : (w : Why) → LentOn b cs lent left (Err w) → PlaceOn (labeling b (figure b cs)) k list list lent left (Err w)
      go NothingCounts l = (l.0, refl, l.1)
      go Short l = (l.0, refl, l.1)
      go TooMany l = absurd l
      go Past l = absurd l
