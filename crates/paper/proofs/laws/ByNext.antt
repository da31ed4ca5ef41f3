-- A PAGE, A PLACE AND THE COUNT BY CALLS OF NEXT. What Page replies, refusals too, is what that many calls of Next give; and who goes on from the last layout of a
-- page loses no layout and meets none twice. Place k is what First and then k calls of Next give, and the count is how many layouts a run has. It is shown of the
-- promises, so of every program that keeps to them.
--     page_by_next, paged_on;  place_by_next, run_place, run_count
use Rattle.std.specs.Prelude.{◌≡◌, refl, ◌⊎◌, ◌↔◌, List, [], ◌∷◌, ℕ, zero, suc, ◌+◌, ◌*◌, ◌-◌, ◌≤◌, ◌<◌, length, get_or, ℤ, pos, negsuc, Some, None, Ok, Err}
use Rattle.std.proofs.Common.{sym, ap, ◌∙◌, inl, inr, arith}
use Rattle.numbers.proofs.Whole.{whole, neg_nums}
use Rattle.paper.specs.Layouts.{Board, held, Same}
use Rattle.paper.specs.Problem.{Best, LastBest, PlaceBest, CountBest}
use Rattle.paper.specs.Refusals.{Passed, Calls, entries, place_trials}
use Rattle.paper.specs.Promises.{Kept, in_turn, Following, NextReplies, PageReplies, PlaceReplies, NextOver}
use Rattle.paper.specs.Runs.{NextRun, Run, NextSoFar, AskedTo, NotRefused, ByNext, PageByNext, PagedOn}
use Rattle.paper.proofs.laws.Trials.{append_passed}
use Rattle.paper.proofs.laws.Order.{Steady, best_same, next_of_same, next_same, last_of_same}
use Rattle.paper.proofs.laws.Numbers.{refusal_low, total-told, next_total-told, end_told, wrote_told, place-told}
use Rattle.paper.proofs.laws.Kept.{kept_trans, kept_both, listed}
use Rattle.paper.proofs.laws.Pages.{Follow, follow_best, follow_one, follow_ends}
use Rattle.paper.proofs.laws.Regular.{Regular}
use Rattle.paper.proofs.laws.Places.{place_best, place_same, follow_place}
use Rattle.paper.proofs.laws.Met.{Steps, next_made}

module _ (c : Calls) (R : Regular c) where
  abbrev b : Board
  b = c.problem.board

  -- Next's trials of a list are passed.
  abbrev Accepts : List ℕ → Type 0
  Accepts list = Passed (c.next list)

  -- The layout of a list, and those of the lists after it; the last of these lists.
  abbrev holding : List ℕ → List (List ℕ) → ℕ → ℕ → ℕ
  holding list ls j = held (get_or (list ∷ ls) j [])

  abbrev final : List ℕ → List (List ℕ) → List ℕ
  final list ls = get_or (list ∷ ls) (length ls) []

  -- ---- Next, asked again and again

  -- What is accepted has room for the layout, and depends on the pads' ports alone.
  room : (list : List ℕ) → Accepts list → entries c ≤ length list
  room list p = R.room (length list) ((R.next_is list).0 p).0

  steady : (list : List ℕ) → Accepts list → Steady c.problem
  steady list p = (R.searchable (length list) ((R.next_is list).0 p).0).steady

  -- A list that is long enough and holds a best layout is accepted where another list is.
  accepts_too : (list other : List ℕ) → Accepts list → entries c ≤ length other → Best c.problem (held other) → Accepts other
  accepts_too list other p l best =
      (R.next_is other).1 (R.other_room (length list) (length other) ((R.next_is list).0 p).0 l, best)

  -- So is what Next leaves of an accepted list,
  accepts_next : (list l : List ℕ) (t : ℕ) → NextOver c list (Ok (Some t)) l → Accepts l
  accepts_next list l t n =
      accepts_too list l n.0 (omega (arith, n.3.long, room list n.0)) n.1.best

  accepts_final : (list : List ℕ) (ls : List (List ℕ)) → Accepts list → NextSoFar c list ls → Accepts (final list ls)
  accepts_final list [] p s = p
  accepts_final list (l ∷ ls) p (t, n, s) = accepts_final l ls (accepts_next list l t (next_total-told c R.numbered list l t n)) s

  -- and the layouts that it leaves follow one another.
  asked_follow : (list : List ℕ) (ls : List (List ℕ)) → NextSoFar c list ls → Follow c.problem (length ls) (holding list ls)
  asked_follow list [] s j h = absurd (omega arith)
  asked_follow list (l ∷ ls) (t, n, s) zero h = (next_total-told c R.numbered list l t n).1
  asked_follow list (l ∷ ls) (t, n, s) (suc j) h = asked_follow l ls s j (omega arith)

  -- From an accepted list Next leaves lists for all layouts that follow its own.
  asks : (k : ℕ) (list : List ℕ) (f : ℕ → ℕ → ℕ) → Accepts list → Same b (held list) (f 0) → Follow c.problem k f
      → (ls : List (List ℕ)) × NextSoFar c list ls × (length ls ≡ k)
  asks zero list f p same follow = ([], tt, refl)
  asks (suc k) list f p same follow =
      let l = listed (entries c) (f 1) list (room list p) in
      let m = l.0 in
      let next = next_same c.problem (steady list p) (f 0) (held list) (f 1) (held m) (λ i h. sym (same i h)) (λ i h. sym (l.1 i h)) (follow 0 (omega arith)) in
      let n : NextOver c list (Ok (Some (c.problem.value (held m)))) m = (p, next, refl, l.2) in
      let r = asks k m (λ j. f (suc j)) (accepts_next list m (c.problem.value (held m)) n) l.1 (λ j h. follow (suc j) (omega arith)) in
      (m ∷ r.0, (c.problem.value (held m), (Ok (Some (c.problem.value (held m))), n, refl), r.1), ap suc r.2)

  -- The end, and a run that comes to it.
  ends : (list : List ℕ) → Accepts list → LastBest c.problem (held list) → NextReplies c list (negsuc 0) list
  ends list p last = (Ok None, (p, last, refl), refl)

  to_run : (list : List ℕ) (ls : List (List ℕ)) → NextSoFar c list ls → NextReplies c (final list ls) (negsuc 0) (final list ls)
      → NextRun c list ls
  to_run list [] s e = e
  to_run list (l ∷ ls) (t, n, s) e = (t, n, to_run l ls s e)

  from_run : (list : List ℕ) (ls : List (List ℕ)) → NextRun c list ls → NextSoFar c list ls × LastBest c.problem (held (final list ls))
  from_run list [] e = (tt, (end_told c R.numbered list list e).1)
  from_run list (l ∷ ls) (t, n, r) = let q = from_run l ls r in ((t, n, q.0), q.1)

  -- ---- a place, and the count

  -- THEOREM. What a run leaves at k is at place k,
  pub run_place : (list : List ℕ) (ls : List (List ℕ)) → Run c list ls → (k : ℕ) → k < length ls → PlaceBest c.problem k (held (get_or ls k []))
  run_place list [] r k h = absurd r
  run_place list (l ∷ ls) (t, f, r) k h =
      follow_place c.problem (holding l ls) (total-told c R.numbered list l t f).1 k (λ j i. asked_follow l ls (from_run l ls r).0 j (omega arith))

  -- and the count is how many lists it leaves.
  pub run_count : (list : List ℕ) (ls : List (List ℕ)) → Run c list ls → CountBest c.problem (length ls)
  run_count list [] r = absurd r
  run_count list (l ∷ ls) r = record {
    last = length ls;
    layout = held (final l ls);
    at = run_place list (l ∷ ls) r (length ls) (omega arith);
    end = (from_run l ls r.2).1;
    more = omega arith;
  }

  module _ (before : List ℕ) where
    -- What First and then k calls of Next answer and leave is the layout at place k, its value, and the rest of the list;
    asked_place : (k t : ℕ) (l : List ℕ) → AskedTo c before k (pos t) l → PlaceBest c.problem k (held l) × (t ≡ c.problem.value (held l)) × Kept (entries c) before l
    asked_place zero t l f = let p = total-told c R.numbered before l t f in (p.1, p.2, p.3)
    asked_place (suc k) t l (u, g, a, n) =
        let q = asked_place k u g a in
        let p = next_total-told c R.numbered g l t n in
        ((held g, q.0, p.1), p.2, kept_trans (entries c) before g l q.2 p.3)

    -- and they come to it.
    place_asked : Passed (c.first (length before)) → (k t : ℕ) (l : List ℕ) → PlaceBest c.problem k (held l) → t ≡ c.problem.value (held l) → Kept (entries c) before l
        → AskedTo c before k (pos t) l
    place_asked p zero t l s e kept = (Ok (Some t), (p, s, e, kept), refl)
    place_asked p (suc k) t l (f, s, u) e kept =
        let g = listed (entries c) f before (R.room (length before) p) in
        let m = g.0 in
        let same : Same b f (held m) = λ i h. sym (g.1 i h) in
        let at = place_same c.problem (R.searchable (length before) p).steady k f (held m) same s in
        let accepts = (R.next_is m).1 (rw g.2.long p, place_best c.problem k (held m) at) in
        let n : NextOver c m (Ok (Some t)) l = (accepts, next_of_same c.problem f (held m) (held l) same u, e, kept_both (entries c) before m l g.2 kept) in
        (c.problem.value (held m), m, place_asked p k (c.problem.value (held m)) m at refl g.2, (Ok (Some t), n, refl))

    -- THEOREM. Place answers just what First and then that many calls of Next answer, and leaves what they leave.
    pub place_by_next : (numbers place t : ℕ) (after : List ℕ) → PlaceReplies c numbers place before (pos t) after
        ↔ (Passed (place_trials c numbers place (length before)) × AskedTo c before place (pos t) after)
    place_by_next numbers place t after = (
      (λ P.
          let q = place-told c R.numbered numbers place before after t P in
          (q.0, place_asked (append_passed (c.first (length before)) _ q.0).0 place t after q.1 q.2 q.3)),
      (λ (p, a). let s = asked_place place t after a in (Ok (Some t), (p, s.0, s.1, s.2), refl)),
    )

  -- ---- a page

  module _ (given before : List ℕ) where
    abbrev turn : List ℕ → ℕ → ℕ → ℕ
    turn page = in_turn (entries c) given page

    not_refused : Accepts given → NotRefused c given
    not_refused p = go (next_made c R given p)
      where
        go : Steps c R given → NotRefused c given
        go (inl (t, l, n)) = inl (t, l, (Ok (Some t), n, refl))
        go (inr n) = inr (Ok None, n, refl)

    accepts_given : NotRefused c given → Accepts given
    accepts_given (inl (t, l, n)) = (next_total-told c R.numbered given l t n).0
    accepts_given (inr n) = (end_told c R.numbered given given n).0

    -- The page has the layouts of the lists that Next leaves,
    page_lists : (k : ℕ) (after : List ℕ) (ls : List (List ℕ)) → Accepts given → Following c.problem given before k after
        → NextSoFar c given ls → length ls ≡ k → ByNext c given before k after
    page_lists k after ls p F s m = record {
      accepted = not_refused p;
      lists = ls;
      asked = s;
      many = m;
      fit = F.fit;
      copied = λ j i h l. sym (same (suc j) h i l);
      kept = F.kept;
      all = go F.all;
    }
      where
        same : (j : ℕ) → j ≤ k → Same b (holding given ls j) (turn after j)
        same = follow_one c.problem (holding given ls) (turn after) (λ i h. refl) k (rw m at (asked_follow given ls s)) F.follow

        go : (length before < suc k * entries c) ⊎ LastBest c.problem (turn after k)
            → (length before < suc k * entries c) ⊎ NextReplies c (get_or (given ∷ ls) k []) (negsuc 0) (get_or (given ∷ ls) k [])
        go (inl full) = inl full
        go (inr last) =
            inr (ends (get_or (given ∷ ls) k []) (rw m at (accepts_final given ls p s))
            (last_of_same c.problem (turn after k) (holding given ls k) (λ i h. sym (same k (omega arith) i h)) last))

    -- and such a page is Page's.
    lists_page : (k : ℕ) (after : List ℕ) → ByNext c given before k after → Following c.problem given before k after
    lists_page k after B = record { fit = B.fit; follow = follow; all = go B.all; kept = B.kept }
      where
        same : (j : ℕ) → j ≤ k → Same b (holding given B.lists j) (turn after j)
        same zero h = λ i l. refl
        same (suc j) h = λ i l. sym (B.copied j i h l)

        follow : Follow c.problem k (turn after)
        follow j h =
            next_same c.problem (steady given (accepts_given B.accepted)) (holding given B.lists j) (turn after j) (holding given B.lists (suc j)) (turn after (suc j))
            (same j (omega arith)) (same (suc j) h) (asked_follow given B.lists B.asked j (omega (arith, B.many)))

        go : (length before < suc k * entries c) ⊎ NextReplies c (get_or (given ∷ B.lists) k []) (negsuc 0) (get_or (given ∷ B.lists) k [])
            → (length before < suc k * entries c) ⊎ LastBest c.problem (turn after k)
        go (inl full) = inl full
        go (inr e) =
            let l = get_or (given ∷ B.lists) k [] in
            inr (last_of_same c.problem (held l) (turn after k) (same k (omega arith)) (end_told c R.numbered l l e).1)

    to_next : (m : ℤ) (after : List ℕ) → PageReplies c given before m after → PageByNext c given before m after
    to_next m after (Ok k, (p, F), e) =
        let r = asks k given (turn after) p (λ i h. refl) F.follow in
        inl (k, e, page_lists k after r.0 p F r.1 r.2)
    to_next m after (Err r, (q, same), e) =
        inr (rw e (refusal_low r (R.numbered.next given r q)), (Err r, (q, refl), e), same)

    from_next : (m : ℤ) (after : List ℕ) → PageByNext c given before m after → PageReplies c given before m after
    from_next m after (inl (k, e, B)) = (Ok k, (accepts_given B.accepted, lists_page k after B), e)
    from_next m after (inr (low, (Ok (Some t), n, e), same)) = absurd (omega (whole, neg_nums (pos 65536), low, e))
    from_next m after (inr (low, (Ok None, n, e), same)) = absurd (omega (whole, neg_nums (pos 65536), low, e))
    from_next m after (inr (low, (Err r, n, e), same)) = (Err r, (n.0, same), e)

    -- THEOREM. What Page replies is what that many calls of Next give, or Next's refusal.
    pub page_by_next : (m : ℤ) (after : List ℕ) → PageReplies c given before m after ↔ PageByNext c given before m after
    page_by_next m after = (to_next m after, from_next m after)

    -- ---- paging on

    module _ (ms : List (List ℕ)) (k : ℕ) (after : List ℕ) (p : Accepts given) (F : Following c.problem given before k after) (s : NextSoFar c given ms)
        (end : LastBest c.problem (held (final given ms))) where
      inside : k ≤ length ms
      inside = follow_ends c.problem (holding given ms) (turn after) (λ i h. refl) (length ms) k (asked_follow given ms s) F.follow end

      alike : (j : ℕ) → j ≤ k → Same b (turn after j) (holding given ms j)
      alike = follow_one c.problem (turn after) (holding given ms) (λ i h. refl) k F.follow (λ j h. asked_follow given ms s j (omega (arith, inside)))

      more : k < length ms → length before < suc k * entries c
      more h = go F.all
        where
          go : (length before < suc k * entries c) ⊎ LastBest c.problem (turn after k) → length before < suc k * entries c
          go (inl full) = full
          go (inr last) =
              absurd (omega (arith, follow_ends c.problem (turn after) (holding given ms) (λ i h. refl) k (length ms) F.follow (asked_follow given ms s) last))

      -- the layouts from the page's last on
      abbrev left : ℕ → ℕ → ℕ
      left j = holding given ms (k + j)

      left_follow : (n : ℕ) → k + n ≡ length ms → Follow c.problem n left
      left_follow n e j h = let d : k + suc j ≡ suc (k + j) = omega arith in rw d (asked_follow given ms s (k + j) (omega arith))

      module _ (last : List ℕ) (room : entries c ≤ length last) (same : Same b (held last) (turn after k)) where
        from_left : Same b (held last) (left 0)
        from_left i h = let e : k + 0 ≡ k = omega arith in rw e (same i h ∙ alike k (omega arith) i h)

        accepts_last : Accepts last
        accepts_last = accepts_too given last p room
            (best_same c.problem (steady given p) (turn after k) (held last) (λ i h. sym (same i h)) (follow_best c.problem (turn after) ((R.next_is given).0 p).1 k F.follow))

        -- the run from there
        run_on : (ns : List (List ℕ)) → NextSoFar c last ns → k + length ns ≡ length ms
            → NextRun c last ns × ((j i : ℕ) → j < length ns → i < entries c → held (get_or ns j []) i ≡ held (get_or ms (k + j) []) i)
        run_on ns q e = (to_run last ns q (ends (final last ns) (accepts_final last ns accepts_last q) no_more), entry)
          where
            as_left : (j : ℕ) → j ≤ length ns → Same b (holding last ns j) (left j)
            as_left = follow_one c.problem (holding last ns) left from_left (length ns) (asked_follow last ns q) (left_follow (length ns) e)

            entry : (j i : ℕ) → j < length ns → i < entries c → held (get_or ns j []) i ≡ held (get_or ms (k + j) []) i
            entry j i h l = let d : k + suc j ≡ suc (k + j) = omega arith in rw d at (as_left (suc j) h i l)

            no_more : LastBest c.problem (held (final last ns))
            no_more = last_of_same c.problem (held (final given ms)) (held (final last ns)) (λ i h. sym (rw e at (as_left (length ns) (omega arith) i h))) end

        on : (ns : List (List ℕ)) × NextRun c last ns × (k + length ns ≡ length ms)
            × ((j i : ℕ) → j < length ns → i < entries c → held (get_or ns j []) i ≡ held (get_or ms (k + j) []) i)
        on =
            let fits : k + (length ms - k) ≡ length ms = omega (arith, inside) in
            let r = asks (length ms - k) last left accepts_last from_left (left_follow (length ms - k) fits) in
            let e : k + length r.0 ≡ length ms = omega (arith, r.2, inside) in
            let q = run_on r.0 r.1 e in
            (r.0, q.0, e, q.1)

    -- THEOREM. Paging on loses no layout and meets none twice.
    pub paged_on : (ms : List (List ℕ)) (k : ℕ) (after : List ℕ) → NextRun c given ms → PageReplies c given before (pos k) after
        → PagedOn c given before ms k after
    paged_on ms k after r P =
        let (s, end) = from_run given ms r in
        let (p, F) = wrote_told c R.numbered given before after k P in
        record {
          within = inside ms k after p F s end;
          copied = λ j i h l. alike ms k after p F s end (suc j) h i l;
          full = more ms k after p F s end;
          rest = on ms k after p F s end;
        }
