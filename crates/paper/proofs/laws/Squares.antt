-- A leader meets a square exactly as the test says; and records touch exactly if leaders touch, or a leader by itself is not open.
--     meets_criterion: by arm or hand;  meets_iff: the test decides;  point_square: a square of half-side 0 is a point of its pad's leader;  records_iff: the test of two records
--     open_iff: untouching is leaders apart, and each leader open;  points_apart: where pads are points, leaders apart
use Rattle.std.specs.Prelude.{◌≡◌, refl, ◌≢◌, ◌⊎◌, ◌↔◌, ◌&&◌, ◌||◌, ℕ, ◌+◌, ◌≤◌, ◌<◌, min, T, ltb, ℤ, pos, ◌+ℤ◌, ◌-ℤ◌}
use Rattle.std.proofs.Common.{inl, inr, ⊎_elim, arith}
use Rattle.std.proofs.Math.Logic.Iff
use Rattle.std.proofs.Math.Decide.{dec_lt, dec_le}
use Rattle.std.proofs.Math.Dec.{leb}
use Rattle.std.specs.Int.Signed.{le_z}
use Rattle.numbers.specs.Whole.{up, dn}
use Rattle.numbers.proofs.Whole.{whole, plus_num, minus_num, apart_num}
use Rattle.numbers.proofs.Tests.{le_iff, leb_iff, ltb_iff, and_iff, or_iff}
use Rattle.paper.specs.Leaders.{Leader, Square, Between, Touch, Meets, distance}
use Rattle.paper.specs.Layouts.{Board, leader, square, LeadersTouch, Touching, Untouching}
use Rattle.paper.specs.Points.{Points, LeadersApart}
use Rattle.paper.specs.laws.Tests.{leaders_touch, reaches, not_right, top_of, bottom_of, under_top, over_bottom, meets, meets_large, records_touch}
use Rattle.paper.proofs.laws.Touching.{between_start, between_end, touch_sym, touch_test_iff}
use Rattle.paper.specs.laws.Squares.{UpTo, Reaches, NotRight, UnderTop, OverBottom, Open}

-- ---- the test

top_iff : (z w : ℤ) (n : ℕ) → T (le_z z (w +ℤ pos n)) ↔ UpTo z w n
top_iff z w n = Iff.trans (le_iff z (w +ℤ pos n)) ((λ h. omega (whole, plus_num w n)), (λ h. omega (whole, plus_num w n)))

bottom_iff : (z w : ℤ) (n : ℕ) → T (le_z (z -ℤ pos n) w) ↔ UpTo z w n
bottom_iff z w n = Iff.trans (le_iff (z -ℤ pos n) w) ((λ h. omega (whole, minus_num z n)), (λ h. omega (whole, minus_num z n)))

-- No more than n apart.
near : (z w : ℤ) (n : ℕ) → distance z w ≤ n → UpTo z w n × UpTo w z n
near z w n h = omega (arith, apart_num z w)

far : (z w : ℤ) (n : ℕ) → UpTo z w n → UpTo w z n → distance z w ≤ n
far z w n h k = omega (arith, apart_num z w)

-- A height between y and q that is n or less from b: y, or q, or else b itself.
abbrev Height : ℤ → ℤ → ℤ → ℕ → Type 0
Height y q b n = (z : ℤ) × Between z y q × (distance z b ≤ n)

middle : (y q b : ℤ) (n : ℕ) → UpTo y b n → UpTo b q n → Height y q b n
middle y q b n h k = go (dec_le (up b + dn y) (up y + n + dn b)) (dec_le (up q + dn b) (up b + n + dn q))
  where
    go : Dec (UpTo b y n) → Dec (UpTo q b n) → Height y q b n
    go (yes u) d = (y, between_start y q, far y b n h u)
    go (no u) (yes v) = (q, between_end y q, far q b n v k)
    go (no u) (no v) = (b, inl (omega whole, omega whole), far b b n (omega arith) (omega arith))

turned : (y q b : ℤ) (n : ℕ) → Height q y b n → Height y q b n
turned y q b n (z, inl h, k) = (z, inr h, k)
turned y q b n (z, inr h, k) = (z, inl h, k)

some_height : (y q b : ℤ) (n : ℕ) → UpTo y b n ⊎ UpTo q b n → UpTo b y n ⊎ UpTo b q n → Height y q b n
some_height y q b n (inl h) (inl k) = (y, between_start y q, far y b n h k)
some_height y q b n (inl h) (inr k) = middle y q b n h k
some_height y q b n (inr h) (inl k) = turned y q b n (middle q y b n h k)
some_height y q b n (inr h) (inr k) = (q, between_end y q, far q b n h k)

module _ (l : Leader) (s : Square) where
  found : Meets l s → Reaches l s × (UnderTop l s × OverBottom l s)
  found (p, inl (e, inl (a, b)), (h, k)) =
      let u = near (pos p.x) (pos s.x) s.half h in
      let v = near p.y s.y s.half (omega arith) in
      (omega arith, (inr (omega arith, omega whole), inl (omega whole)))
  found (p, inl (e, inr (a, b)), (h, k)) =
      let u = near (pos p.x) (pos s.x) s.half h in
      let v = near p.y s.y s.half (omega arith) in
      (omega arith, (inl (omega whole), inr (omega arith, omega whole)))
  found (p, inr (e, a), (h, k)) =
      let u = near (pos p.x) (pos s.x) s.half h in
      let v = near p.y s.y s.half (omega arith) in
      (omega arith, (inl (omega whole), inl (omega whole)))

  arm_point : Reaches l s → UpTo l.port s.y s.half → UpTo s.y l.port s.half → Meets l s
  arm_point a b c = (
    record { x = min s.x l.x; y = l.port },
    inr (refl, omega arith),
    (far (pos (min s.x l.x)) (pos s.x) s.half (omega arith) (omega arith), far l.port s.y s.half b c),
  )

  hand_point : Reaches l s → NotRight l s → UpTo l.y s.y s.half ⊎ UpTo l.port s.y s.half → UpTo s.y l.y s.half ⊎ UpTo s.y l.port s.half
      → Meets l s
  hand_point a b c d =
      let z = some_height l.y l.port s.y s.half c d in
      (record { x = l.x; y = z.0 }, inl (refl, z.1), (far (pos l.x) (pos s.x) s.half (omega arith) (omega arith), z.2))

  back : Reaches l s → UnderTop l s → OverBottom l s → Meets l s
  back a (inl b) (inl c) = arm_point a b c
  back a (inl b) (inr (e, c)) = hand_point a e (inr b) (inl c)
  back a (inr (e, b)) (inl c) = hand_point a e (inl b) (inr c)
  back a (inr (e, b)) (inr (d, c)) = hand_point a e (inl b) (inl c)

  pub meets_cases : Meets l s ↔ (Reaches l s × (UnderTop l s × OverBottom l s))
  meets_cases = (found, λ (a, (b, c)). back a b c)

  -- THEOREM. The arm meets it, at a height of the square, or the hand does, at an x of it.
  pub meets_criterion : Meets l s
      ↔ (((s.x ≤ l.x + s.half) × (distance l.port s.y ≤ s.half))
      ⊎ ((distance (pos l.x) (pos s.x) ≤ s.half) × ((z : ℤ) × Between z l.y l.port × (distance z s.y ≤ s.half))))
  meets_criterion = (there, again)
    where
      there : Meets l s → ((s.x ≤ l.x + s.half) × (distance l.port s.y ≤ s.half))
          ⊎ ((distance (pos l.x) (pos s.x) ≤ s.half) × Height l.y l.port s.y s.half)
      there (p, inl (e, b), (h, k)) = inr (rw e at h, (p.y, b, k))
      there (p, inr (e, a), (h, k)) = inl (omega (arith, near (pos p.x) (pos s.x) s.half h), rw e at k)

      again : ((s.x ≤ l.x + s.half) × (distance l.port s.y ≤ s.half))
          ⊎ ((distance (pos l.x) (pos s.x) ≤ s.half) × Height l.y l.port s.y s.half) → Meets l s
      again (inl (a, k)) = let (u, v) = near l.port s.y s.half k in arm_point a u v
      again (inr (h, (z, b, k))) = (record { x = l.x; y = z }, inl (refl, b), (h, k))

  -- THEOREM. The test decides whether the leader meets the square.
  pub meets_iff : T (meets l s) ↔ Meets l s
  unfolding meets reaches under_top over_bottom not_right
  meets_iff =
      let side = leb l.x (s.x + s.half) in
      let by = leb_iff l.x (s.x + s.half) in
      let top = and_iff side (le_z l.y (top_of s)) by (top_iff l.y s.y s.half) in
      let bottom = and_iff side (le_z (bottom_of s) l.y) by (bottom_iff s.y l.y s.half) in
      let under = or_iff (le_z l.port (top_of s)) (side && le_z l.y (top_of s)) (top_iff l.port s.y s.half) top in
      let over = or_iff (le_z (bottom_of s) l.port) (side && le_z (bottom_of s) l.y) (bottom_iff s.y l.port s.half) bottom in
      let heights = and_iff (le_z l.port (top_of s) || side && le_z l.y (top_of s)) (le_z (bottom_of s) l.port || side && le_z (bottom_of s) l.y) under over in
      let all = and_iff (leb s.x (l.x + s.half)) _ (leb_iff s.x (l.x + s.half)) heights in
      ((λ t. meets_cases.1 (all.0 t)), (λ m. all.1 (meets_cases.0 m)))

-- ---- two records

-- A square of half-side 0 is the pad's point, and that is on the pad's leader.
pub point_square : (b : Board) (f : ℕ → ℕ) (i j q : ℕ) → b.half j ≡ 0 → Meets (leader b i q) (square b j) → Touch (leader b i q) (leader b j (f j))
point_square b f i j q z (p, a, (h, k)) =
    let e : p.x ≡ b.x j = omega (arith, apart_num (pos p.x) (pos (b.x j))) in
    let d : p.y ≡ b.y j = omega (whole, apart_num p.y (b.y j)) in
    (p, a, inl (e, rw d (between_start (b.y j) (b.port (f j)))))

-- Two records touch by the leader of i on the square of j, where that is more than a point.
abbrev MeetsLarge : Board → (ℕ → ℕ) → ℕ → ℕ → Type 0
MeetsLarge b f i j = (0 < b.half j) × Meets (leader b i (f i)) (square b j)

module _ (b : Board) (f : ℕ → ℕ) where
  -- A point is met only where leaders touch.
  large_or_touch : (i j : ℕ) → Meets (leader b i (f i)) (square b j) → LeadersTouch b f i j ⊎ MeetsLarge b f i j
  large_or_touch i j m = go (dec_lt 0 (b.half j))
    where
      go : Dec (0 < b.half j) → LeadersTouch b f i j ⊎ MeetsLarge b f i j
      go (yes h) = inr (h, m)
      go (no h) = inl (point_square b f i j (f i) (omega arith) m)

  pub touching_cases : (i j : ℕ) → Touching b f i j ↔ (LeadersTouch b f i j ⊎ (MeetsLarge b f i j ⊎ MeetsLarge b f j i))
  touching_cases i j = (there, back)
    where
      there : Touching b f i j → LeadersTouch b f i j ⊎ (MeetsLarge b f i j ⊎ MeetsLarge b f j i)
      there (inl t) = inl t
      there (inr (inl m)) = ⊎_elim inl (λ c. inr (inl c)) (large_or_touch i j m)
      there (inr (inr m)) = ⊎_elim (λ t. inl (touch_sym (leader b j (f j)) (leader b i (f i)) t)) (λ c. inr (inr c)) (large_or_touch j i m)

      back : LeadersTouch b f i j ⊎ (MeetsLarge b f i j ⊎ MeetsLarge b f j i) → Touching b f i j
      back (inl t) = inl t
      back (inr (inl c)) = inr (inl c.1)
      back (inr (inr c)) = inr (inr c.1)

  meets_large_iff : (i j : ℕ) → T (meets_large (leader b i (f i)) (square b j)) ↔ MeetsLarge b f i j
  unfolding meets_large
  meets_large_iff i j =
      and_iff (ltb 0 (b.half j)) (meets (leader b i (f i)) (square b j)) (ltb_iff 0 (b.half j)) (meets_iff (leader b i (f i)) (square b j))

  -- THEOREM. The test decides whether two records touch, for pads of different x.
  pub records_iff : (i j : ℕ) → b.x i ≢ b.x j → T (records_touch b f i j) ↔ Touching b f i j
  records_iff i j d =
      let tests = or_iff (leaders_touch (leader b i (f i)) (leader b j (f j))) (meets_large (leader b i (f i)) (square b j) || meets_large (leader b j (f j)) (square b i))
      (touch_test_iff (leader b i (f i)) (leader b j (f j)) d)
      (or_iff (meets_large (leader b i (f i)) (square b j)) (meets_large (leader b j (f j)) (square b i)) (meets_large_iff i j) (meets_large_iff j i)) in
      ((λ t. (touching_cases i j).1 (tests.0 t)), (λ t. tests.1 ((touching_cases i j).0 t)))

  -- THEOREM. Where both half-sides are 0 records touch exactly if their leaders do.
  pub points_iff : (i j : ℕ) → b.half i ≡ 0 → b.half j ≡ 0 → Touching b f i j ↔ LeadersTouch b f i j
  points_iff i j zi zj = ((λ t. ⊎_elim (λ l. l) (⊎_elim (λ c. absurd (omega (arith, c.0))) (λ c. absurd (omega (arith, c.0)))) ((touching_cases i j).0 t)), inl)

  -- THEOREM. No two records touch exactly if no two leaders do, and each leader by itself is open.
  pub open_iff : ((i j : ℕ) → j < i → i < b.pads → ¬ Touching b f i j)
      ↔ (((i j : ℕ) → j < i → i < b.pads → ¬ LeadersTouch b f i j) × ((i : ℕ) → i < b.pads → Open b i (f i)))
  open_iff = (there, back)
    where
      there : ((i j : ℕ) → j < i → i < b.pads → ¬ Touching b f i j)
          → ((i j : ℕ) → j < i → i < b.pads → ¬ LeadersTouch b f i j) × ((i : ℕ) → i < b.pads → Open b i (f i))
      there n = ((λ i j l k t. n i j l k (inl t)), (λ i k j m d h. go i k j m d (dec_lt j i)))
        where
          go : (i : ℕ) → i < b.pads → (j : ℕ) → j < b.pads → j ≢ i → Dec (j < i) → ¬ Meets (leader b i (f i)) (square b j)
          go i k j m d (yes l) t = n i j l k (inr (inl t))
          go i k j m d (no l) t = n j i (omega arith) m (inr (inr t))

      back : ((i j : ℕ) → j < i → i < b.pads → ¬ LeadersTouch b f i j) × ((i : ℕ) → i < b.pads → Open b i (f i))
          → (i j : ℕ) → j < i → i < b.pads → ¬ Touching b f i j
      back (n, a) i j l k t =
          ⊎_elim (n i j l k) (⊎_elim (λ c. a i k j (omega arith) (omega arith) c.0 c.1) (λ c. a j (omega arith) i k (omega arith) c.0 c.1))
          ((touching_cases i j).0 t)

-- THEOREM. Where pads are points, a layout is untouching exactly if no two leaders touch.
pub points_apart : (b : Board) → Points b → (f : ℕ → ℕ) → Untouching b f ↔ LeadersApart b f
points_apart b points f = (
  (λ u. record { layout = u.layout; apart = λ i j l k t. u.apart i j l k (inl t) }),
  (λ u. record { layout = u.layout; apart = λ i j l k t. u.apart i j l k ((points_iff b f i j (points i k) (points j (omega arith))).0 t) }),
)
