-- Whole points are enough. On any line of numbers that holds the whole numbers in their order (the fractions, the reals), leaders of pads with
-- different x share a point with such coordinates exactly if they share a whole one, and so do a leader and a square: hands, arms and edges lie along the axes,
-- so that only the order of the coordinates counts.
--     touch_plane, meets_plane;  fractions: a line that is one
use Rattle.std.specs.Prelude.{◌≡◌, refl, ◌≢◌, ◌↔◌, ℕ, ◌+◌, ◌*◌, ◌≤◌, ◌<◌, ℤ, pos, ◌+ℤ◌, ◌-ℤ◌, ◌*ℤ◌, ◌≤ℤ◌}
use Rattle.std.proofs.Common.{sym, ◌∙◌, subst, inl, inr, mul-le-mul_left, arith}
use Rattle.std.proofs.Math.Decide.{dec_lt}
use Rattle.std.proofs.Math.Nat.{le_of_mul-le-mul_left}
use Rattle.std.specs.Int.Signed.{≤ℤ_refl}
use Rattle.numbers.specs.Whole.{up, dn}
use Rattle.numbers.proofs.Whole.{whole, plus_num, minus_num, apart_num, antisym, ≤ℤ-trans, times_up, times_dn}
use Rattle.paper.specs.Leaders.{Spot, Leader, Square, Between, On, Touch, Meets, distance}
use Rattle.paper.specs.Plane.{Line, BetweenIn, OnIn, TouchIn, Near, MeetsIn}
use Rattle.paper.proofs.laws.Touching.{between_end, touch_sym, touch_iff}
use Rattle.paper.specs.laws.Squares.{UpTo, Reaches, UnderTop, OverBottom}
use Rattle.paper.proofs.laws.Squares.{meets_cases}

module _ (line : Line) where
  infix 4 ◌⊑◌
  abbrev ◌⊑◌ : line.number → line.number → Type 0
  a ⊑ b = line.le a b

  abbrev e : ℤ → line.number
  e z = line.at z

  tells_between : (m a b : ℤ) → BetweenIn line (e m) a b → Between m a b
  tells_between m a b (inl (h, k)) = inl (line.tells a m h, line.tells m b k)
  tells_between m a b (inr (h, k)) = inr (line.tells b m h, line.tells m a k)

  keeps_between : (m a b : ℤ) → Between m a b → BetweenIn line (e m) a b
  keeps_between m a b (inl (h, k)) = inl (line.keeps a m h, line.keeps m b k)
  keeps_between m a b (inr (h, k)) = inr (line.keeps b m h, line.keeps m a k)

  same : (z w : ℤ) → e z ≡ e w → z ≤ℤ w
  same z w h = line.tells z w (subst (λ (r : line.number). e z ⊑ r) h (line.keeps z z (≤ℤ_refl z)))

  on_whole : (l : Leader) (p : Spot) → On l p → OnIn line l (e (pos p.x)) (e p.y)
  on_whole l p (inl (h, b)) = inl (rw h refl, keeps_between p.y l.y l.port b)
  on_whole l p (inr (h, b)) = inr (rw h refl, line.keeps (pos 0) (pos p.x) (omega whole), line.keeps (pos p.x) (pos l.x) (omega whole))

  ordered : (l m : Leader) → m.x < l.x → TouchIn line l m → Between l.port m.y m.port
  ordered l m right (u, v, inl (h, a), inl (k, b)) =
      let c : pos l.x ≤ℤ pos m.x = same (pos l.x) (pos m.x) (sym h ∙ k) in
      absurd (omega whole)
  ordered l m right (u, v, inl (h, a), inr (k, b, d)) =
      let c : pos l.x ≤ℤ pos m.x = line.tells (pos l.x) (pos m.x) (subst (λ (r : line.number). r ⊑ e (pos m.x)) h d) in
      absurd (omega whole)
  ordered l m right (u, v, inr (h, a, d), inl (k, b)) =
      tells_between l.port m.y m.port (subst (λ (r : line.number). BetweenIn line r m.y m.port) h b)
  ordered l m right (u, v, inr (h, a, d), inr (k, b, c)) =
      let q : m.port ≡ l.port = antisym m.port l.port (same m.port l.port (sym k ∙ h)) (same l.port m.port (sym h ∙ k)) in
      subst (λ (z : ℤ). Between z m.y m.port) q (between_end m.y m.port)

  -- THEOREM: leaders of pads with different x share a point of the plane exactly if they share a whole point.
  pub touch_plane : (l m : Leader) → l.x ≢ m.x → TouchIn line l m ↔ Touch l m
  touch_plane l m n = (there (dec_lt m.x l.x), (λ (p, a, b). (e (pos p.x), e p.y, on_whole l p a, on_whole m p b)))
    where
      there : Dec (m.x < l.x) → TouchIn line l m → Touch l m
      there (yes h) t = (touch_iff l m h).1 (ordered l m h t)
      there (no h) (u, v, a, b) =
          let k : l.x < m.x = omega arith in
          touch_sym m l ((touch_iff m l k).1 (ordered m l k (u, v, b, a)))

  -- ---- squares

  near_whole : (z w : ℤ) (n : ℕ) → distance z w ≤ n → Near line (e z) w n
  near_whole z w n h =
      let a : (w -ℤ pos n) ≤ℤ z = omega (whole, minus_num w n, apart_num z w) in
      let b : z ≤ℤ (w +ℤ pos n) = omega (whole, plus_num w n, apart_num z w) in
      (line.keeps (w -ℤ pos n) z a, line.keeps z (w +ℤ pos n) b)

  -- A number from z on that is near w, and one up to z.
  through_up : (z w : ℤ) (n : ℕ) (r : line.number) → e z ⊑ r → Near line r w n → UpTo z w n
  through_up z w n r h (a, b) =
      let c : z ≤ℤ (w +ℤ pos n) = line.tells z (w +ℤ pos n) (line.trans (e z) r (e (w +ℤ pos n)) h b) in
      omega (whole, plus_num w n)

  through_down : (z w : ℤ) (n : ℕ) (r : line.number) → r ⊑ e z → Near line r w n → UpTo w z n
  through_down z w n r h (a, b) =
      let c : (w -ℤ pos n) ≤ℤ z = line.tells (w -ℤ pos n) z (line.trans (e (w -ℤ pos n)) r (e z) a h) in
      omega (whole, minus_num w n)

  below : (z : ℤ) (r : line.number) → r ≡ e z → e z ⊑ r
  below z r h = subst (λ (q : line.number). e z ⊑ q) (sym h) (line.keeps z z (≤ℤ_refl z))

  above : (z : ℤ) (r : line.number) → r ≡ e z → r ⊑ e z
  above z r h = subst (λ (q : line.number). q ⊑ e z) (sym h) (line.keeps z z (≤ℤ_refl z))

  met : (l : Leader) (s : Square) → MeetsIn line l s → Reaches l s × (UnderTop l s × OverBottom l s)
  met l s (u, v, inl (h, inl (a, b)), (c, d)) =
      let i = through_down (pos l.x) (pos s.x) s.half u (above (pos l.x) u h) c in
      let j = through_up (pos l.x) (pos s.x) s.half u (below (pos l.x) u h) c in
      (omega arith, (inr (omega arith, through_up l.y s.y s.half v a d), inl (through_down l.port s.y s.half v b d)))
  met l s (u, v, inl (h, inr (a, b)), (c, d)) =
      let i = through_down (pos l.x) (pos s.x) s.half u (above (pos l.x) u h) c in
      let j = through_up (pos l.x) (pos s.x) s.half u (below (pos l.x) u h) c in
      (omega arith, (inl (through_up l.port s.y s.half v a d), inr (omega arith, through_down l.y s.y s.half v b d)))
  met l s (u, v, inr (h, a, b), (c, d)) =
      let i = through_down (pos l.x) (pos s.x) s.half u b c in (
        omega arith,
        (inl (through_up l.port s.y s.half v (below l.port v h) d), inl (through_down l.port s.y s.half v (above l.port v h) d)),
      )

  -- THEOREM: a leader and a square share a point of the plane exactly if they share a whole one.
  pub meets_plane : (l : Leader) (s : Square) → MeetsIn line l s ↔ Meets l s
  meets_plane l s = (
    (λ m. (meets_cases l s).1 (met l s m)),
    (λ (p, a, (h, k)). (e (pos p.x), e p.y, on_whole l p a, (near_whole (pos p.x) (pos s.x) s.half h, near_whole p.y s.y s.half k))),
  )

module _ (k : ℕ) (pos-k : 0 < k) where
  -- Multiples of k are in the order of the numbers.
  keeps_times : (z w : ℤ) → z ≤ℤ w → (pos k *ℤ z) ≤ℤ (pos k *ℤ w)
  keeps_times z w h =
      let m : k * (up z + dn w) ≤ k * (up w + dn z) = mul-le-mul_left k (omega whole) in
      omega (whole, times_up k z, times_dn k z, times_up k w, times_dn k w)

  tells_times : (z w : ℤ) → (pos k *ℤ z) ≤ℤ (pos k *ℤ w) → z ≤ℤ w
  tells_times z w h =
      let m : k * (up z + dn w) ≤ k * (up w + dn z) = omega (whole, times_up k z, times_dn k z, times_up k w, times_dn k w) in
      let r : up z + dn w ≤ up w + dn z = le_of_mul-le-mul_left m pos-k in
      omega whole

  -- The fractions with the denominator k are such a line: z stands for z / k, and the whole number z for k * z.
  pub fractions : Line
  fractions = record { number = ℤ; le = ◌≤ℤ◌; at = λ z. pos k *ℤ z; trans = ≤ℤ-trans; keeps = keeps_times; tells = tells_times }
