-- From the search's words to the paper's: what the rules of its lists say, the rules of the board say.
use mathlib.Core.Path.{◌≡◌, refl, sym, ap, ◌∙◌, subst}
use mathlib.Core.Logic.{◌≢◌}
use mathlib.Core.List.{List, []}
use Prim.Native.Nat.{ℕ, ◌+◌, ◌*◌, ◌^◌, ◌≤◌, ◌<◌}
use native.Mathlib.Omega.{arith}
use lib.ListN.{length, get_or}
use borrow.Author.Tests.{eq-eqb, ne_eqb}
use Rattle.std.specs.Prelude.{Option}
use Rattle.numbers.specs.Kept.{KeptFrom}
use Rattle.strips.specs.Least.{none, some}
use Rattle.totals.specs.Cell.{least_of}
use Rattle.totals.specs.Cell as totals
use Rattle.pads.specs.Pads.{Pads}
use Rattle.slots.specs.Slots.{figure_of, figures_at, figures_in, Room, SlotTable, TellsLeast}
use Rattle.slots.specs.Lending.{room_lent, figure_some}
use Rattle.choices.specs.Source.{Source, source, Right}
use Rattle.choices.specs.Choices.{Working}
use Rattle.steps.specs.Steps.{IsLeast}
use Rattle.steps.specs.Totals.{best_total, slots_least, full_least}
use Rattle.weights.specs.Rows.{lent_figure, FiguresFrom}
use Rattle.paper.specs.Layouts.{Board, held, figure}
use Rattle.paper.specs.Problem.{labeling}
use Rattle.paper.specs.Promises.{Kept}
use Rattle.paper.specs.Refusals.{work_needed}
use Rattle.paper.specs.laws.Squares.{Open}
use Rattle.board.specs.Lists.{ListsOf, CostsOn}
use Rattle.board.specs.Bars.{BarsOf}
use Rattle.board.specs.Bridge.{pads, proper, untouching_sol, sum-total, optimal_is_best, best_is_optimal, first_best, next_best, last_best}
use Rattle.walks.specs.declared.Start.{Start}
use Rattle.walks.specs.declared.Start.TheVariants.{First, Given}
use Rattle.walks.specs.declared.Walked.{Walked}
use Rattle.walks.specs.Walks.{list_rules, Startable, Walks}
use Rattle.walks.specs.Says.{Says, walks_said}
use Rattle.layouts.specs.Replies.{rules_of, StartOn, Tabled}

-- ---- the lists of a board

module _ {b : Board} {order lo hi : List ℕ} {p : ℕ} (same : p ≡ b.ports) (W : ListsOf b order lo hi) where
  pub lists_pads : Pads order lo hi p
  lists_pads = rw same (pads W)

-- A work list of enough numbers has room for their tables.
pub room_lists : (b : Board) {order lo hi : List ℕ} {p size : ℕ} → p ≡ b.ports → ListsOf b order lo hi → work_needed b.pads b.ports ≤ size
    → Room (length order) p size
room_lists b {size = size} same W enough = rw (same, W.listed.arranged.long) (room_lent b.pads b.ports size W.few W.slots_few enough)

-- ---- any table

module _ (b : Board) {order lo hi : List ℕ} {T : Source} {cost : ℕ → ℕ → ℕ} (W : ListsOf b order lo hi) (C : CostsOn b cost T) where
  same_n : length order ≡ b.pads
  same_n = W.listed.arranged.long

  -- A walk on the board can start over its lists if the table is right; ..
  pub working_on : Right order T lo hi → (start : Start) (w : List ℕ) → 0 < b.pads → StartOn start b w → (0 < length order) × Working order T lo hi w
  working_on right start w pads s = (omega (arith, same_n), record { proper = proper W C; table = right; room = room start s })
    where
      room : (start : Start) → StartOn start b w → length order ≤ length w
      room First s = omega (arith, same_n)
      room Given s = omega (arith, same_n, s.0)

  -- .. an untouching layout is one to the search.
  pub startable_on : (start : Start) (w : List ℕ) → StartOn start b w → Startable start order T lo hi w
  startable_on First w s = tt
  startable_on Given w s = untouching_sol W C (held w) s.1

  kept_on : (w v : List ℕ) → KeptFrom (length order) w v → Kept b.pads w v
  kept_on w v K = record { long = K.long; rest = λ k h. K.rest k (omega (arith, same_n)) }

  pub says : Says (list_rules order T lo hi) (rules_of (labeling b cost))
  says = record {
    earliest = λ w v e. (first_best W C (held v) e.earliest, kept_on w v e.kept);
    nothing = λ none f u. none (f, untouching_sol W C f u);
    best = λ w. (optimal_is_best W C (held w), best_is_optimal W C (held w));
    next = λ w v e. (next_best W C (held w) (held v) e.earliest, kept_on w v e.kept);
    last = λ w e. last_best W C (held w) e.none;
    least = λ t e w s. best_total (proper W C) t e w (best_is_optimal W C (held w) s) ∙ sum-total W C (held w) s.counts;
  }

  pub walks_on : (start : Start) (w page v after : List ℕ) (r : Option Walked) → Walks (list_rules order T lo hi) (length order) start w page v after r
      → Walks (rules_of (labeling b cost)) b.pads start w page v after r
  walks_on start w page v after r P = subst (λ (n : ℕ). Walks (rules_of (labeling b cost)) n start w page v after r) same_n
      (walks_said says (length order) start w page v after r P)

-- ---- the table on the stack: as many ports as pads

module _ (b : Board) {order lo hi cs bs hs ts : List ℕ} (W : ListsOf b order lo hi) (even : b.ports ≡ b.pads) (bars : BarsOf b bs) (made : totals.Table order cs bs lo hi hs ts) where
  some_heads : length hs ≡ 0 → ⊥
  some_heads e = omega (arith, made.sizes.heads)

  abbrev stacked : Source
  stacked = source hs ts cs bs (length order)

  pub stacked_costs : CostsOn b (figure b cs) stacked
  stacked_costs = record {
    ports = W.listed.arranged.long ∙ sym even;
    at = λ j q h k o. let zero = (bars.at j q h k).1 o in rw (ne_eqb (length hs) 0 some_heads, ← even, eq-eqb (get_or bs (j * b.ports + q) 0) 0 zero) refl;
    shut = λ j q h k o. let some : get_or bs (j * b.ports + q) 0 ≢ 0 = λ e. o ((bars.at j q h k).0 e) in rw (ne_eqb (length hs) 0 some_heads, ← even, ne_eqb (get_or bs (j * b.ports + q) 0) 0 some) refl;
  }

  pub stacked_right : Right order stacked lo hi
  stacked_right = record { full = λ h. record { ports = refl; table = made }; slotted = λ e. absurd (some_heads e) }

  pub stacked_least : (t : ℕ) → t ≡ least_of order cs bs lo hi → IsLeast order stacked lo hi t
  stacked_least t e = full_least order stacked lo hi t some_heads refl e

-- ---- the table in the work list: ports may stay free

-- Figures that are written as numbers of 32 bits are the costs, and none where they are barred, as long as they are kept.
module _ (b : Board) (cost : ℕ → ℕ → ℕ) {bs w v : List ℕ} (bars : BarsOf b bs) (F : FiguresFrom b cost bs (figures_at b.pads b.ports) w)
    (K : KeptFrom (figures_at b.pads b.ports) w v) (narrow : (i q : ℕ) → i < b.pads → q < b.ports → cost i q < 2 ^ 32) (i q : ℕ) (h : i < b.pads) (k : q < b.ports) where
  lent_as : figures_in v b.pads b.ports i q ≡ figure_of (lent_figure (get_or bs (i * b.ports + q) 0) (cost i q))
  lent_as = ap figure_of (K.rest (figures_at b.pads b.ports + (i * b.ports + q)) (omega arith) ∙ F.at i q h k)

  pub figures_lent : Open b i q → figures_in v b.pads b.ports i q ≡ some (cost i q)
  figures_lent o = lent_as ∙ rw (eq-eqb (get_or bs (i * b.ports + q) 0) 0 ((bars.at i q h k).1 o)) (figure_some (cost i q) (narrow i q h k))

  pub figures_shut : ¬ Open b i q → figures_in v b.pads b.ports i q ≡ none
  unfolding figure_of
  figures_shut o = lent_as ∙ rw (ne_eqb (get_or bs (i * b.ports + q) 0) 0 (λ e. o ((bars.at i q h k).0 e))) refl

-- What the table asks for, of p ports and a list of so many numbers as the code has them; ..
pub fillable : (b : Board) {order lo hi : List ℕ} (p size long : ℕ) → p ≡ b.ports → long ≡ size → ListsOf b order lo hi → Room b.pads b.ports size
    → Pads order lo hi p × Room (length order) p long
fillable b p size long same e W R = (rw same (pads W), rw (same, e, W.listed.arranged.long) R)

-- .. and what it then comes to.
pub tabled : (b : Board) (cost : ℕ → ℕ → ℕ) {order lo hi w v : List ℕ} (p base t : ℕ) → p ≡ b.ports → base ≡ figures_at b.pads b.ports → ListsOf b order lo hi
    → (bs : List ℕ) → BarsOf b bs → FiguresFrom b cost bs base w → ((i q : ℕ) → i < b.pads → q < b.ports → cost i q < 2 ^ 32)
    → KeptFrom (figures_at (length order) p) w v → SlotTable order lo hi p v → TellsLeast order lo hi p v t → Tabled b cost order lo hi v t
tabled b cost p base t same start W bs bars F narrow K T A = record {
  lists = W;
  figures = figures_lent b cost bars (rw start at F) (rw (W.listed.arranged.long, same) at K) narrow;
  shut = figures_shut b cost bars (rw start at F) (rw (W.listed.arranged.long, same) at K) narrow;
  table = rw same at T;
  least = rw same at A;
}

module _ (b : Board) {cost : ℕ → ℕ → ℕ} {order lo hi work : List ℕ} {t : ℕ} (M : Tabled b cost order lo hi work t)
    {p : ℕ} (same : p ≡ b.ports) where
  abbrev lent : Source
  lent = source [] work [] [] p

  pub lent_costs : CostsOn b cost lent
  lent_costs = record {
    ports = same;
    at = λ j q h k o. rw same (M.figures j q h k o);
    shut = λ j q h k o. rw same (M.shut j q h k o);
  }

  -- No table on the stack is read, whatever its figures.
  pub lent_right : (hs cs bs : List ℕ) → length hs ≡ 0 → Right order (source hs work cs bs p) lo hi
  lent_right hs cs bs empty = record { full = λ h. absurd (omega (arith, empty)); slotted = λ e. rw same M.table }

  pub lent_least : IsLeast order lent lo hi t
  lent_least = slots_least order lent lo hi t refl (rw same M.least)
