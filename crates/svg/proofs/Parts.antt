-- How numbers, points, lines and texts are put together from what is written one after the other. Assumes nothing.
use mathlib.Core.Path.{◌≡◌, refl, sym, ap, subst, ◌∙◌}
use mathlib.Core.Bool.{true, false, true≢false}
use mathlib.Core.List.{List, [], ◌∷◌, ◌++◌, append_assoc}
use Prim.Native.Nat.{ℕ, ◌+◌, ◌/◌, ◌%◌, ◌≤◌, ◌<◌}
use lib.ListN.{length, take, length-append}
use lib.IntN.{ℤ, pos, negsuc, nat_abs, neg_ℤ, ℤ_discrete}
use lib.Signed.{lt_z}
use borrow.Author.Tests.{ltb-true}
use native.Mathlib.Omega.{arith}
use Rattle.std.specs.Prelude.{None, Ok}
use Rattle.text.specs.Text.{bytes, decimal, Writes}
use Rattle.text.specs.Writing.{writes_then, writes_whole, writes_over}
use Rattle.paper.specs.Leaders.{Leader}
use Rattle.paper.specs.Job.{records}
use Rattle.paper.specs.Layouts.{Board, board_of, held, leader, by_weights}
use Rattle.paper.specs.Refusals.{Passed, measure_trials}
use Rattle.paper.specs.Promises.{SvgAnswers}
use Rattle.paper.proofs.laws.Exported.{text_bound, svg_made}
use Rattle.paper.specs.Svg.{fraction, quarters, numeral}
use Rattle.paper.specs.laws.Texts.{point_text, line_text, lines_text, sheet_text, AllOnSheet}
use Rattle.paper.proofs.laws.Texts.{level_text, bend_text, line_short, lines_short}

-- The same text, said in another way.
pub writes_as : {b a s t : List ℕ} {at r : ℕ} → s ≡ t → Writes b at s r a → Writes b at t r a
writes_as {b} {a} {at = at} {r = r} e w = subst (λ (u : List ℕ). Writes b at u r a) e w

-- The digits of the whole part, and then what the quarters left over come to.
pub quarters_written : {b m a : List ℕ} {at r q : ℕ} (n k : ℕ) → n % 4 ≡ k → Writes b at (decimal (n / 4)) r m → Writes m r (fraction k) q a → Writes b at (quarters n) q a
unfolding quarters
quarters_written n k e f g = rw e (writes_then f g)

pub quarters-length : (n k : ℕ) → n % 4 ≡ k → length (quarters n) ≡ length (decimal (n / 4)) + length (fraction k)
unfolding quarters
quarters-length n k e = rw e (length-append (decimal (n / 4)) (fraction k))

-- A minus before the size of what is below 0; the size alone of what is not.
pub below_written : {b m a : List ℕ} {at r q : ℕ} (v : ℤ) → lt_z v (pos 0) ≡ true → Writes b at (bytes "-") r m → Writes m r (quarters (nat_abs v)) q a → Writes b at (numeral v) q a
unfolding numeral
below_written (pos n) l f g = absurd (omega (arith, ltb-true n 0 l))
below_written (negsuc n) l f g = writes_then f g

pub below_length : (v : ℤ) → lt_z v (pos 0) ≡ true → length (numeral v) ≡ 1 + length (quarters (nat_abs v))
unfolding numeral
below_length (pos n) l = absurd (omega (arith, ltb-true n 0 l))
below_length (negsuc n) l = omega arith

pub above_written : {b a : List ℕ} {at q : ℕ} (v : ℤ) → lt_z v (pos 0) ≡ false → Writes b at (quarters (nat_abs v)) q a → Writes b at (numeral v) q a
unfolding numeral
above_written (pos n) l g = g
above_written (negsuc n) l g = absurd (true≢false l)

pub above_length : (v : ℤ) → lt_z v (pos 0) ≡ false → length (numeral v) ≡ length (quarters (nat_abs v))
unfolding numeral
above_length (pos n) l = refl
above_length (negsuc n) l = absurd (true≢false l)

-- A point: x, a comma, y downward.
pub point_written : {b m k a : List ℕ} {at r t q : ℕ} (x : ℕ) (y : ℤ) → Writes b at (quarters x) r m → Writes m r (bytes ",") t k → Writes k t (numeral (neg_ℤ y)) q a
    → Writes b at (point_text x y) q a
unfolding point_text numeral
point_written x y f g h = writes_then (writes_then f g) h

pub point_length : (x : ℕ) (y : ℤ) → length (point_text x y) ≡ length (quarters x) + 1 + length (numeral (neg_ℤ y))
unfolding point_text numeral
point_length x y = simp length-append (omega arith)

-- A line: the points between its two ends.
straight_joined : (s p r e n : List ℕ) (c : ℕ) → s ++ p ++ (c ∷ r) ++ (e ++ n) ≡ s ++ (p ++ (c ∷ []) ++ r) ++ e ++ n
straight_joined s p r e n c = simp append_assoc

bent_joined : (s p m r e n : List ℕ) (c : ℕ) → s ++ p ++ (c ∷ m) ++ (c ∷ r) ++ (e ++ n) ≡ s ++ (p ++ (c ∷ []) ++ m ++ (c ∷ []) ++ r) ++ e ++ n
bent_joined s p m r e n c = simp append_assoc

pub straight_written : {b₀ b₁ b₂ b₃ b₄ : List ℕ} {k₀ k₁ k₂ k₃ k₄ : ℕ} (l : Leader) → l.y ≡ l.port
    → Writes b₀ k₀ (bytes "<polyline points=\"") k₁ b₁ → Writes b₁ k₁ (point_text l.x l.y) k₂ b₂ → Writes b₂ k₂ (bytes " " ++ point_text 0 l.port) k₃ b₃
    → Writes b₃ k₃ (bytes "\"/>\n") k₄ b₄ → Writes b₀ k₀ (line_text l ++ bytes "\n") k₄ b₄
straight_written l e f g h i =
    let pad = point_text l.x l.y in
    let joined = straight_joined (bytes "<polyline points=\"") pad (point_text 0 l.port) (bytes "\"/>") (bytes "\n") 32 in
    rw (level_text l e) (writes_as joined (writes_then (writes_then (writes_then f g) h) i))

pub bent_written : {b₀ b₁ b₂ b₃ b₄ b₅ : List ℕ} {k₀ k₁ k₂ k₃ k₄ k₅ : ℕ} (l : Leader) → (l.y ≡ l.port → ⊥)
    → Writes b₀ k₀ (bytes "<polyline points=\"") k₁ b₁ → Writes b₁ k₁ (point_text l.x l.y) k₂ b₂ → Writes b₂ k₂ (bytes " " ++ point_text l.x l.port) k₃ b₃
    → Writes b₃ k₃ (bytes " " ++ point_text 0 l.port) k₄ b₄ → Writes b₄ k₄ (bytes "\"/>\n") k₅ b₅ → Writes b₀ k₀ (line_text l ++ bytes "\n") k₅ b₅
bent_written l n f g h i j =
    let pad = point_text l.x l.y in
    let bend = point_text l.x l.port in
    let joined = bent_joined (bytes "<polyline points=\"") pad bend (point_text 0 l.port) (bytes "\"/>") (bytes "\n") 32 in
    rw (bend_text l n) (writes_as joined (writes_then (writes_then (writes_then (writes_then f g) h) i) j))

pub straight_length : (l : Leader) → l.y ≡ l.port → length (line_text l) ≡ 22 + length (point_text l.x l.y) + length (point_text 0 l.port)
straight_length l e = rw (level_text l e) (simp length-append (omega arith))

pub bent_length : (l : Leader) → (l.y ≡ l.port → ⊥)
    → length (line_text l) ≡ 23 + length (point_text l.x l.y) + length (point_text l.x l.port) + length (point_text 0 l.port)
bent_length l n = rw (bend_text l n) (simp length-append (omega arith))

-- In either case it has room for its start and the pad.
pub line_long : (l : Leader) → 18 + length (point_text l.x l.y) ≤ length (line_text l)
line_long l = go (ℤ_discrete l.y l.port)
  where
    go : Dec (l.y ≡ l.port) → 18 + length (point_text l.x l.y) ≤ length (line_text l)
    go (yes e) = omega (arith, straight_length l e)
    go (no n) = omega (arith, bent_length l n)

-- There is room for one more line.
pub lines_room : (b : Board) (f : ℕ → ℕ) → AllOnSheet b f → b.pads ≤ 64 → (i : ℕ) → i < b.pads → length (lines_text b f i) + length (line_text (leader b i (f i))) + 1 ≤ 4864
lines_room b f on few i h = omega (arith, lines_short b f on i (omega arith), line_short (leader b i (f i)) (on i h))

-- The lines that were made, r bytes in m, are copied to the lent bytes, and that is Svg's answer.
module _ (job list : List ℕ) (p : Passed (measure_trials (records job) (by_weights 0 0) None list)) {o m : List ℕ} {r : ℕ}
    (made : Writes o 0 (sheet_text (board_of (records job)) (held list)) r m) (room : length o ≡ 4864) where
  abbrev text : List ℕ
  text = sheet_text (board_of (records job)) (held list)

  pub made_is : take r m ≡ text
  made_is = writes_whole made (omega (arith, text_bound job list p))

  pub made_long : (r ≡ length text) × (r ≡ length (take r m))
  made_long = let e : r ≡ length text = omega (arith, made.stop) in (e, e ∙ sym (ap length made_is))

  pub copied : {before after : List ℕ} {q : ℕ} → r ≤ length before → Writes before 0 (take r m) q after → SvgAnswers job list before (Ok q) after
  copied {before} {after} {q} h w =
      let v : Writes before 0 text q after = rw made_is at w in
      let fits : length text ≤ length before = omega (arith, made_long.0) in
      let stop : q ≡ length text = omega (arith, v.stop) in
      rw (stop, writes_over v fits) (svg_made job list before p fits)
