-- Leaders touch exactly as 01's criterion says.
--     touch_iff: 01's criterion;  touch_test_iff: the test decides touching
use Rattle.std.specs.Prelude.{refl, ◌≢◌, ◌⊎◌, ◌↔◌, ◌&&◌, ◌<◌, T, ltb, ℤ}
use Rattle.std.proofs.Common.{sym, ◌∙◌, subst, inl, inr, ⊎_elim, arith}
use Rattle.std.proofs.Math.Decide.{dec_lt}
use Rattle.std.specs.Int.Signed.{le_z, ≤ℤ_refl}
use Rattle.numbers.proofs.Whole.{le_or_le}
use Rattle.numbers.proofs.Tests.{le_iff, ltb_iff, and_iff, or_iff}
use Rattle.paper.specs.Leaders.{Leader, Between, Touch}
use Rattle.paper.specs.laws.Tests.{between, leaders_touch}

-- The test decides whether m lies between a and b.
pub between_iff : (m a b : ℤ) → T (between m a b) ↔ Between m a b
unfolding between
between_iff m a b =
    or_iff (le_z a m && le_z m b) (le_z b m && le_z m a)
    (and_iff (le_z a m) (le_z m b) (le_iff a m) (le_iff m b))
    (and_iff (le_z b m) (le_z m a) (le_iff b m) (le_iff m a))

-- Both ends lie between.
pub between_start : (a b : ℤ) → Between a a b
between_start a b = ⊎_elim (λ h. inl (≤ℤ_refl a, h)) (λ h. inr (h, ≤ℤ_refl a)) (le_or_le a b)

pub between_end : (a b : ℤ) → Between b a b
between_end a b = ⊎_elim (λ h. inl (h, ≤ℤ_refl b)) (λ h. inr (≤ℤ_refl b, h)) (le_or_le a b)

-- Touching goes both ways.
pub touch_sym : (l m : Leader) → Touch l m → Touch m l
touch_sym l m (p, a, b) = (p, b, a)

-- THEOREM, 01's criterion: a leader touches that of a pad further left exactly if its port's height lies between that pad's own height and
-- its port's, ends included.
pub touch_iff : (l m : Leader) → m.x < l.x → Touch l m ↔ Between l.port m.y m.port
touch_iff l m right = (there, λ b. (record { x = m.x; y = l.port }, inr (refl, omega arith), inl (refl, b)))
  where
    there : Touch l m → Between l.port m.y m.port
    there (p, inl (e, b), inl (d, c)) = absurd (omega arith)
    there (p, inl (e, b), inr (d, c)) = absurd (omega arith)
    there (p, inr (e, b), inl (d, c)) = subst (λ (z : ℤ). Between z m.y m.port) e c
    there (p, inr (e, b), inr (d, c)) = subst (λ (z : ℤ). Between z m.y m.port) (sym d ∙ e) (between_end m.y m.port)

-- THEOREM: the test decides touching, for two pads of different x.
pub touch_test_iff : (l m : Leader) → l.x ≢ m.x → T (leaders_touch l m) ↔ Touch l m
unfolding leaders_touch
touch_test_iff l m n =
    ((λ t. ⊎_elim (λ (h, b). (touch_iff l m h).1 b) (λ (h, b). touch_sym m l ((touch_iff m l h).1 b)) (tests.0 t)), (λ t. tests.1 (go t (dec_lt m.x l.x))))
  where
    tests : T (leaders_touch l m) ↔ (((m.x < l.x) × Between l.port m.y m.port) ⊎ ((l.x < m.x) × Between m.port l.y l.port))
    tests =
        or_iff (ltb m.x l.x && between l.port m.y m.port) (ltb l.x m.x && between m.port l.y l.port)
        (and_iff (ltb m.x l.x) (between l.port m.y m.port) (ltb_iff m.x l.x) (between_iff l.port m.y m.port))
        (and_iff (ltb l.x m.x) (between m.port l.y l.port) (ltb_iff l.x m.x) (between_iff m.port l.y l.port))

    go : Touch l m → Dec (m.x < l.x) → ((m.x < l.x) × Between l.port m.y m.port) ⊎ ((l.x < m.x) × Between m.port l.y l.port)
    go t (yes h) = inl (h, (touch_iff l m h).0 t)
    go t (no h) = let k : l.x < m.x = omega arith in inr (k, (touch_iff m l k).0 (touch_sym l m t))
