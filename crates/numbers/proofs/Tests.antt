-- What a test says: T of a Bool computed by tests, as a statement. Assumes nothing.
use Rattle.std.specs.Prelude.{◌≡◌, refl, ◌⊎◌, ◌↔◌, Bool, true, false, not, ◌&&◌, ◌||◌, ℕ, ◌≤◌, ◌<◌, T, ltb, leb, eqb, ℤ, ◌≤ℤ◌, ◌<ℤ◌}
use Rattle.std.proofs.Common.{sym, subst, inl, inr, ⊎_elim, T_not, eqb→eq, ltb→lt, lt→ltb, leb→le, le→leb}
use Rattle.std.proofs.Math.Dec.{not_T, eqb_refl}
use Rattle.std.specs.Int.Signed.{le_z, lt_z}

pub both : (a b : Bool) → T (a && b) ↔ (T a × T b)
both true b = ((λ t. (tt, t)), (λ t. t.1))
both false b = ((λ t. absurd t), (λ t. t.0))

pub either : (a b : Bool) → T (a || b) ↔ (T a ⊎ T b)
either true b = ((λ t. inl tt), (λ t. tt))
either false b = ((λ t. inr t), ⊎_elim (λ t. absurd t) (λ t. t))

pub le_iff : (z w : ℤ) → T (le_z z w) ↔ (z ≤ℤ w)
le_iff z w = ((λ t. record { le = t }), (λ h. h.le))

-- a test on the conjunction or the disjunction of what two tests say
pub and_iff : {A B : Type 0} (a b : Bool) → T a ↔ A → T b ↔ B → T (a && b) ↔ (A × B)
and_iff a b f g = ((λ t. let u = (both a b).0 t in (f.0 u.0, g.0 u.1)), (λ u. (both a b).1 (f.1 u.0, g.1 u.1)))

pub or_iff : {A B : Type 0} (a b : Bool) → T a ↔ A → T b ↔ B → T (a || b) ↔ (A ⊎ B)
or_iff a b f g =
    ((λ t. ⊎_elim (λ u. inl (f.0 u)) (λ u. inr (g.0 u)) ((either a b).0 t)), (λ t. (either a b).1 (⊎_elim (λ u. inl (f.1 u)) (λ u. inr (g.1 u)) t)))

pub leb_iff : (a b : ℕ) → T (leb a b) ↔ (a ≤ b)
leb_iff a b = (leb→le a b, le→leb a b)

pub ltb_iff : (a b : ℕ) → T (ltb a b) ↔ (a < b)
ltb_iff a b = (ltb→lt a b, lt→ltb a b)

pub not_iff : {A : Type 0} (a : Bool) → T a ↔ A → T (not a) ↔ (¬ A)
not_iff a f = ((λ t x. T_not a t (f.1 x)), (λ n. not_T a (λ t. n (f.0 t))))

pub true_iff : {A : Type 0} (a : Bool) → T a ↔ A → (a ≡ true) ↔ A
true_iff true f = ((λ e. f.0 tt), (λ x. refl))
true_iff false f = ((λ e. f.0 (subst T (sym e) tt)), (λ x. absurd (f.1 x)))

-- What a test tells can be decided.
pub dec_iff : {A : Type 0} (a : Bool) → T a ↔ A → Dec A
dec_iff true f = yes (f.0 tt)
dec_iff false f = no f.1

-- Equal numbers; a smaller whole number.
pub eqb_iff : (a b : ℕ) → T (eqb a b) ↔ (a ≡ b)
eqb_iff a b = (eqb→eq a b, λ e. subst (λ (c : ℕ). T (eqb a c)) e (eqb_refl a))

pub lt_iff : (z w : ℤ) → T (lt_z z w) ↔ (z <ℤ w)
lt_iff z w = ((λ t. record { lt = t }), (λ h. h.lt))
