-- Where a layout counts there is a best one, an earliest best one, and after each best one the next, or it is the last.
--     best_exists, first_exists, next_or_last
use Rattle.std.specs.Prelude.{◌⊎◌, ℕ, ◌<◌}
use Rattle.std.proofs.Common.{inl, inr, arith}
use Rattle.paper.specs.Problem.{Problem, Best, Before, FirstBest, NextBest, LastBest}
use Rattle.paper.proofs.laws.Straighten.{descend}
use Rattle.paper.proofs.laws.Rank.{rank, rank_rises}
use Rattle.paper.specs.laws.Trying.{later_test}
use Rattle.paper.proofs.laws.Trying.{Tells, Searchable, some_word_dec, some_less_dec}
use Rattle.paper.proofs.laws.Trying.{counts_tells, cheaper_tells, before_tells, best_tells, best_inside, later_tells}

-- From a function with the property P one comes to a least one, if a lesser one can be found or denied, and a number falls from each to a lesser one.
least_exists : {P : (ℕ → ℕ) → Type 0} {Less : (ℕ → ℕ) → (ℕ → ℕ) → Type 0} (size : (ℕ → ℕ) → ℕ)
    → ((g f : ℕ → ℕ) → P g → Less g f → size g < size f) → ((f : ℕ → ℕ) → Dec ((g : ℕ → ℕ) × (Less g f × P g)))
    → (f : ℕ → ℕ) → P f → (g : ℕ → ℕ) × P g × ((h : ℕ → ℕ) → P h → ¬ Less h g)
least_exists {P} {Less} size falls try = descend size (λ f p. go f (try f))
  where
    go : (f : ℕ → ℕ) → Dec ((g : ℕ → ℕ) × (Less g f × P g)) → ((h : ℕ → ℕ) → P h → ¬ Less h f) ⊎ ((g : ℕ → ℕ) × P g × (size g < size f))
    go f (yes (g, (r, q))) = inr (g, q, falls g f q r)
    go f (no n) = inl (λ h q r. n (h, (r, q)))

module _ (p : Problem) (S : Searchable p) where
  -- Where a layout counts there is a best one,
  pub best_exists : (f : ℕ → ℕ) → p.Counts f → (g : ℕ → ℕ) × Best p g
  best_exists f u =
      let r = least_exists p.value (λ g f v l. l) (some_less_dec p.board (cheaper_tells p S) (counts_tells p S) S.inside) f u in
      (r.0, record { counts = r.1; least = λ g v. omega (arith, r.2 g v) })

  rank_falls : (g f : ℕ → ℕ) → Best p g → Before p.board g f → rank p.board g < rank p.board f
  rank_falls g f s h = rank_rises p.board S.differ g f (best_inside p S g s) h

  -- and an earliest best one;
  pub first_exists : (f : ℕ → ℕ) → p.Counts f → (g : ℕ → ℕ) × FirstBest p g
  first_exists f u =
      let s = best_exists f u in
      let r = least_exists (rank p.board) rank_falls (some_less_dec p.board (before_tells p.board) (best_tells p S) (best_inside p S)) s.0 s.1 in
      (r.0, record { best = r.1; earliest = r.2 })

  -- after a best one there is the next, or it is the last.
  pub next_or_last : (l : ℕ → ℕ) → Best p l → ((g : ℕ → ℕ) × NextBest p l g) ⊎ LastBest p l
  next_or_last l s = go (some_word_dec p.board later (λ g t. best_inside p S g t.1))
    where
      later : Tells p.board (later_test p S.test l) (λ g. Before p.board l g × Best p g)
      later = later_tells p S l

      go : Dec ((f : ℕ → ℕ) × (Before p.board l f × Best p f)) → ((g : ℕ → ℕ) × NextBest p l g) ⊎ LastBest p l
      go (no n) = inr (λ g t h. n (g, (h, t)))
      go (yes (f, k)) =
          let try = some_less_dec p.board (before_tells p.board) later (λ g t. best_inside p S g t.1) in
          let r = least_exists (rank p.board) (λ g f t. rank_falls g f t.1) try f k in
          inl (r.0, record { best = r.1.1; later = r.1.0; earliest = λ g t h. r.2 g (h, t) })
