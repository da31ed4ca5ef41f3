-- Pages: there is one page that follows a given layout, and it can be filled, layout by layout.
--     following_one: there is one page;  page_filled: it can be filled;  follow_one, follow_ends: so with layouts that follow one another
use Rattle.std.specs.Prelude.{◌≡◌, refl, ◌⊎◌, List, ℕ, zero, suc, ◌+◌, ◌*◌, ◌/◌, ◌%◌, ◌≤◌, ◌<◌, length, get_or}
use Rattle.std.proofs.Common.{sym, ◌∙◌, inl, inr, ⊎_elim, suc-mul, mul-le-mul_right, div-add-mod', mod-lt, div-lt_iff_lt-mul, arith}
use Rattle.std.proofs.Math.Decide.{dec_lt}
use Rattle.numbers.specs.Copies.{Copied}
use Rattle.numbers.proofs.Copies.{copied}
use Rattle.paper.specs.Layouts.{held, Same}
use Rattle.paper.specs.Problem.{Problem, Best, NextBest, LastBest}
use Rattle.paper.specs.Promises.{Kept, in_turn, Following}
use Rattle.paper.proofs.laws.Order.{Steady, best_same, next_best_one, next_not_last, next_best_same, next_of_same, next_same, last_of_same, below_suc}
use Rattle.paper.specs.laws.Trying.{row}
use Rattle.paper.proofs.laws.Trying.{Searchable, row-at}
use Rattle.paper.proofs.laws.Earliest.{next_or_last}
use Rattle.paper.proofs.laws.Kept.{kept_one}

-- ---- where the layouts of a page stand

-- k + 1 layouts are k layouts and one; the entries of the one at place j come before those of the one at place k.
one_more : (k n : ℕ) → suc k * n ≡ k * n + n
one_more k n = omega (arith, suc-mul k n)

places_apart : (j k n : ℕ) → j < k → j * n + n ≤ k * n
places_apart j k n h = omega (arith, suc-mul j n, mul-le-mul_right {m = suc j} {n = k} n h)

-- Where some place is filled, there are pads.
some_pads : (i k n : ℕ) → i < k * n → 0 < n
some_pads i k zero h = absurd (omega arith)
some_pads i k (suc n) h = omega arith

-- ---- layouts that follow one another

module _ (p : Problem) where
  -- f 0, and after it k layouts, each the next after the one before it.
  abbrev pub Follow : ℕ → (ℕ → ℕ → ℕ) → Type 0
  Follow k f = (j : ℕ) → j < k → NextBest p (f j) (f (suc j))

  -- From a best layout on all are best.
  pub follow_best : (f : ℕ → ℕ → ℕ) → Best p (f 0) → (k : ℕ) → Follow k f → Best p (f k)
  follow_best f best zero F = best
  follow_best f best (suc k) F = (F k (omega arith)).best

  -- From the same layout the same follow, as far as both go,
  pub follow_one : (f g : ℕ → ℕ → ℕ) → Same p.board (f 0) (g 0) → (k : ℕ) → Follow k f → Follow k g → (j : ℕ) → j ≤ k → Same p.board (f j) (g j)
  follow_one f g same k F G zero h = same
  follow_one f g same k F G (suc j) h =
      next_best_one p (f j) (f (suc j)) (g (suc j)) (F j h)
      (next_of_same p (g j) (f j) (g (suc j)) (λ i l. sym (follow_one f g same k F G j (omega arith) i l)) (G j h))

  -- and none goes on where another comes to the last.
  pub follow_ends : (f g : ℕ → ℕ → ℕ) → Same p.board (f 0) (g 0) → (k m : ℕ) → Follow k f → Follow m g → LastBest p (f k) → m ≤ k
  follow_ends f g same k m F G last = go (dec_lt k m)
    where
      go : Dec (k < m) → m ≤ k
      go (no d) = omega arith
      go (yes d) =
          absurd (next_not_last p (g k) (g (suc k)) (G k d)
          (last_of_same p (f k) (g k) (follow_one f g same k F (λ j h. G j (omega arith)) k (omega arith)) last))

module _ (p : Problem) (given before : List ℕ) where
  abbrev turn : List ℕ → ℕ → ℕ → ℕ
  turn page = in_turn p.board.pads given page

  -- ---- one page

  -- A page has no fewer layouts than another,
  not_fewer : (k m : ℕ) (l o : List ℕ) → Following p given before k l → Following p given before m o → m ≤ k
  not_fewer k m l o F G = go (dec_lt k m)
    where
      go : Dec (k < m) → m ≤ k
      go (no d) = omega arith
      go (yes d) =
          ⊎_elim
          (λ full. absurd (omega (arith, G.fit, mul-le-mul_right {m = suc k} {n = m} p.board.pads d)))
          (λ last. follow_ends p (turn l) (turn o) (λ i h. refl) k m F.follow G.follow last)
          F.all

  -- so there is one page, with one number of layouts.
  pub following_one : (k m : ℕ) (l o : List ℕ) → Following p given before k l → Following p given before m o → (k ≡ m) × (l ≡ o)
  following_one k m l o F G = (e, kept_one (k * p.board.pads) before l o F.kept (rw (← e) at G.kept) same)
    where
      e : k ≡ m
      e = omega (arith, not_fewer k m l o F G, not_fewer m k o l G F)

      -- place i has entry i % n of the layout number i / n
      same : (i : ℕ) → i < k * p.board.pads → get_or l i 0 ≡ get_or o i 0
      same i h =
          let some = some_pads i k p.board.pads h in
          let there = follow_one p (turn l) (turn o) (λ i h. refl) k F.follow (λ j g. G.follow j (omega (arith, e))) (suc (i / p.board.pads)) in
          rw div-add-mod' at (there ((div-lt_iff_lt-mul some).1 h) (i % p.board.pads) (mod-lt i some))

  -- ---- a page that is being filled

  -- k layouts stand on it, in turn, and the rest is kept.
  pub record Paging (k : ℕ) (after : List ℕ) : Type 0 where
    pub fit : k * p.board.pads ≤ length before
    pub follow : (j : ℕ) → j < k → NextBest p (turn after j) (turn after (suc j))
    pub kept : Kept (k * p.board.pads) before after

  pub paging_none : Paging 0 before
  paging_none = record { fit = omega arith; follow = λ j h. absurd (omega arith); kept = record { long = refl; rest = λ i h. refl } }

  -- One layout more, which follows the last: it stands on the page, ..
  module _ (k : ℕ) (page : List ℕ) (P : Paging k page) (w after : List ℕ) (C : Copied p.board.pads (k * p.board.pads) w page after) where
    -- .. and those before it are there still.
    turned : (j : ℕ) → j < suc k → Same p.board (turn page j) (turn after j)
    turned zero h i l = refl
    turned (suc j) h i l = sym (C.early (j * p.board.pads + i) (omega (arith, places_apart j k p.board.pads (omega arith))))

    pub paging_here : Same p.board (turn after (suc k)) (held w)
    paging_here i l = C.here i l

    pub paging_more : Steady p → suc k * p.board.pads ≤ length before → NextBest p (turn page k) (held w) → Paging (suc k) after
    paging_more steady room next = record {
      fit = room;
      follow = below_suc k
          (λ j h. next_same p steady (turn page j) (turn after j) (turn page (suc j)) (turn after (suc j))
          (turned j (omega arith)) (turned (suc j) (omega arith)) (P.follow j h))
          (next_same p steady (turn page k) (turn after k) (held w) (turn after (suc k)) (turned k (omega arith)) (λ i l. sym (paging_here i l)) next);
      kept = record {
        long = C.long ∙ P.kept.long;
        rest = λ i h. C.late i (omega (arith, one_more k p.board.pads)) ∙ P.kept.rest i (omega (arith, one_more k p.board.pads));
      };
    }

  -- There is no room for one more; or none follows.
  pub page_full : (k : ℕ) (after : List ℕ) → Paging k after → length before < suc k * p.board.pads → Following p given before k after
  page_full k after P h = record { fit = P.fit; follow = P.follow; all = inl h; kept = P.kept }

  pub page_ends : (k : ℕ) (after : List ℕ) → Paging k after → LastBest p (turn after k) → Following p given before k after
  page_ends k after P h = record { fit = P.fit; follow = P.follow; all = inr h; kept = P.kept }

  -- ---- a page can be filled

  module _ (S : Searchable p) (some : 0 < p.board.pads) where
    abbrev PageFilled : Type 0
    PageFilled = (k : ℕ) × (after : List ℕ) × Following p given before k after

    -- A page on which the last layout is a best one can be filled on, for the room that is left becomes less.
    fill_on : (room k : ℕ) (page : List ℕ) → length before ≤ room + k * p.board.pads → Paging k page → Best p (turn page k) → PageFilled
    fill_on zero k page enough P best = (k, page, page_full k page P (omega (arith, one_more k p.board.pads)))
    fill_on (suc room) k page enough P best =
        go (fill_on room (suc k)) (dec_lt (length before) (suc k * p.board.pads)) (next_or_last p S (turn page k) best)
      where
        go : ((next : List ℕ) → length before ≤ room + suc k * p.board.pads → Paging (suc k) next → Best p (turn next (suc k)) → PageFilled)
            → Dec (length before < suc k * p.board.pads) → ((g : ℕ → ℕ) × NextBest p (turn page k) g) ⊎ LastBest p (turn page k) → PageFilled
        go on (yes full) d = (k, page, page_full k page P full)
        go on (no full) (inr last) = (k, page, page_ends k page P last)
        go on (no full) (inl (g, next)) =
            let w = row p.board.pads g in
            let c = copied p.board.pads (k * p.board.pads) w page (omega (arith, P.kept.long, one_more k p.board.pads)) in
            let s = next_best_same p S.steady (turn page k) g (held w) (λ i h. sym (row-at p.board.pads g i h)) next in
            on c.0 (omega (arith, one_more k p.board.pads)) (paging_more k page P w c.0 c.1 S.steady (omega arith) s)
            (best_same p S.steady (held w) (turn c.0 (suc k)) (λ i h. sym (paging_here k page P w c.0 c.1 i h)) s.best)

    pub page_filled : Best p (held given) → PageFilled
    page_filled = fill_on (length before) 0 before (omega arith) paging_none

-- A page depends only on the ports that the given list holds.
module _ (p : Problem) (steady : Steady p) (g h : List ℕ) (same : Same p.board (held g) (held h)) (before : List ℕ) (k : ℕ) (after : List ℕ) where
  in_turn_same : (j : ℕ) → Same p.board (in_turn p.board.pads g after j) (in_turn p.board.pads h after j)
  in_turn_same zero = same
  in_turn_same (suc j) = λ i l. refl

  pub following_same : Following p g before k after → Following p h before k after
  following_same F = record {
    fit = F.fit;
    follow = λ j l. next_same p steady (in_turn p.board.pads g after j) (in_turn p.board.pads h after j) (in_turn p.board.pads g after (suc j)) (in_turn p.board.pads h after (suc j))
        (in_turn_same j) (in_turn_same (suc j)) (F.follow j l);
    all = ⊎_elim inl (λ last. inr (last_of_same p (in_turn p.board.pads g after k) (in_turn p.board.pads h after k) (in_turn_same k) last)) F.all;
    kept = F.kept;
  }
