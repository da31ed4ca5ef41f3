-- The tests that the code computes for each fault of Refusals.antt, that each says what its fault says, and each call's tests in order.
--     bad_size_iff, bad_weight_iff, bad_table_iff, bad_field_iff, not_above_iff, too_close_iff, same_name_iff, same_x_iff, bad_entry_iff, bad_number_iff
use Rattle.std.specs.Prelude.{◌≡◌, ◌≢◌, ◌⊎◌, ◌↔◌, Bool, not, ◌||◌, List, ℕ, zero, suc, ◌*◌, ◌-◌, ◌%◌, ◌≤◌, ◌<◌, T, eqb, leb, ltb, length, ℤ, pos, negsuc, neg_ℤ, ◌-ℤ◌, ◌<ℤ◌}
use Rattle.std.proofs.Common.{subst, inl, inr, ⊎_elim, le_of_suc-le-suc, not-suc-le-zero, eq-or-lt_of_le, arith}
use Rattle.std.proofs.Math.Logic.Iff
use Rattle.std.proofs.Math.Bool.{or_assoc}
use Rattle.std.specs.Int.Signed.{le_z, lt_z}
use Rattle.numbers.proofs.Whole.{whole}
use Rattle.numbers.proofs.Tests.{and_iff, or_iff, not_iff, leb_iff, ltb_iff, le_iff, eqb_iff, lt_iff}
use Rattle.paper.specs.declared.Form.{Form}
use Rattle.paper.specs.declared.Form.TheVariants.{Records, Slots}
use Rattle.paper.specs.Job.{twos, name_of, half_of, x_of, y_of, last_of, port_of}
use Rattle.paper.specs.Layouts.{held}
use Rattle.paper.specs.Refusals.{Earlier, BadSize, BadWeight, Outside, BadLast, BadPad, BadField, NotAbove, TooClose, SameName, SameX, BadEntry}
use Rattle.paper.specs.laws.Tests.{somewhere, with_earlier, bad_size, bad_weight, bad_table, outside, bad_last, bad_pad, bad_field, not_above, too_close, same_name, same_x, same_entry, bad_entry, bad_number}

-- ---- what each says

pub somewhere_iff : (p : ℕ → Bool) (P : ℕ → Type 0) (n : ℕ) → ((j : ℕ) → j < n → T (p j) ↔ P j) → T (somewhere p n) ↔ ((j : ℕ) × (j < n) × P j)
unfolding somewhere
somewhere_iff p P zero says = ((λ t. absurd t), (λ (j, l, x). absurd (not-suc-le-zero l)))
somewhere_iff p P (suc n) says =
    Iff.trans (or_iff (somewhere p n) (p n) (somewhere_iff p P n (λ j l. says j (omega arith))) (says n (omega arith))) (
      ⊎_elim (λ (j, l, x). (j, omega arith, x)) (λ x. (n, omega arith, x)),
      λ (j, l, x). ⊎_elim (λ e. inr (subst P e x)) (λ k. inl (j, k, x)) (eq-or-lt_of_le (le_of_suc-le-suc l)),
    )

pub with_earlier_iff : (q : ℕ → ℕ → Bool) (R : ℕ → ℕ → Type 0) (i : ℕ) → ((j : ℕ) → j < i → T (q i j) ↔ R i j) → T (with_earlier q i) ↔ Earlier R i
with_earlier_iff q R i says = somewhere_iff (q i) (R i) i says

-- 1, 2 and 13
pub bad_size_iff : (one most : ℕ) (bytes : List ℕ) → T (bad_size one most bytes) ↔ BadSize one most bytes
bad_size_iff one most bytes =
    let n = length bytes in
    simp or_assoc
    (or_iff (eqb n 0) (not (eqb (n % one) 0) || ltb most n) (eqb_iff n 0)
    (or_iff (not (eqb (n % one) 0)) (ltb most n) (not_iff (eqb (n % one) 0) (eqb_iff (n % one) 0)) (ltb_iff most n)))

pub bad_weight_iff : (lw bw : ℕ) → T (bad_weight lw bw) ↔ BadWeight lw bw
bad_weight_iff lw bw = or_iff (ltb 1000 lw) (ltb 1000 bw) (ltb_iff 1000 lw) (ltb_iff 1000 bw)

pub bad_table_iff : (n p figures : ℕ) → T (bad_table n p figures) ↔ (figures ≢ n * p)
bad_table_iff n p figures = not_iff (eqb figures (n * p)) (eqb_iff figures (n * p))

-- 4
pub outside_iff : (h : ℤ) → T (outside h) ↔ Outside h
unfolding outside
outside_iff h =
    Iff.trans (or_iff (lt_z h (neg_ℤ (pos 1000000))) (lt_z (pos 1000000) h) (lt_iff h (neg_ℤ (pos 1000000))) (lt_iff (pos 1000000) h)) (there h, back h)
  where
    there : (h : ℤ) → (h <ℤ neg_ℤ (pos 1000000)) ⊎ (pos 1000000 <ℤ h) → Outside h
    there (pos n) (inl l) = omega whole
    there (pos n) (inr l) = omega whole
    there (negsuc n) (inl l) = omega whole
    there (negsuc n) (inr l) = omega whole

    back : (h : ℤ) → Outside h → (h <ℤ neg_ℤ (pos 1000000)) ⊎ (pos 1000000 <ℤ h)
    back (pos n) l = inr (omega whole)
    back (negsuc n) l = inl (omega whole)

bad_last_iff : (form : Form) (n : ℕ) → T (bad_last form n) ↔ BadLast form n
bad_last_iff Records n = outside_iff (twos n)
bad_last_iff Slots n = not_iff (eqb n 0) (eqb_iff n 0)

pub bad_pad_iff : (name half x : ℕ) (y : ℤ) → T (bad_pad name half x y) ↔ BadPad name half x y
bad_pad_iff name half x y =
    simp or_assoc
    (or_iff (eqb name 0) (ltb 2000 half || (ltb x 1 || (ltb 1000000 x || outside y))) (eqb_iff name 0)
    (or_iff (ltb 2000 half) (ltb x 1 || (ltb 1000000 x || outside y)) (ltb_iff 2000 half)
    (or_iff (ltb x 1) (ltb 1000000 x || outside y) (ltb_iff x 1)
    (or_iff (ltb 1000000 x) (outside y) (ltb_iff 1000000 x) (outside_iff y)))))

pub bad_field_iff : (form : Form) (pads : List ℕ) (i : ℕ) → T (bad_field form pads i) ↔ BadField form pads i
bad_field_iff form pads i =
    or_iff (bad_pad (name_of pads i) (half_of pads i) (x_of pads i) (y_of pads i)) (bad_last form (last_of pads i))
    (bad_pad_iff (name_of pads i) (half_of pads i) (x_of pads i) (y_of pads i)) (bad_last_iff form (last_of pads i))

-- 5 and 12
pub not_above_iff : (form : Form) (ports : List ℕ) (q : ℕ) → T (not_above form ports q) ↔ NotAbove (port_of form ports) q
not_above_iff form ports q =
    let port = port_of form ports in
    and_iff (ltb 0 q) (le_z (port q) (port (q - 1))) (ltb_iff 0 q) (le_iff (port q) (port (q - 1)))

pub too_close_iff : (form : Form) (ports : List ℕ) (q : ℕ) → T (too_close form ports q) ↔ TooClose (port_of form ports) q
too_close_iff form ports q =
    let rise = port_of form ports q -ℤ port_of form ports (q - 1) in
    and_iff (ltb 0 q) (lt_z rise (pos 8)) (ltb_iff 0 q) (lt_iff rise (pos 8))

-- 6, 7 and 8
pub same_name_iff : (job : List ℕ) (i j : ℕ) → T (same_name job i j) ↔ SameName job i j
same_name_iff job i j = eqb_iff (name_of job i) (name_of job j)

pub same_x_iff : (job : List ℕ) (i j : ℕ) → T (same_x job i j) ↔ SameX job i j
same_x_iff job i j = eqb_iff (x_of job i) (x_of job j)

pub bad_entry_iff : (n : ℕ) (list : List ℕ) (i : ℕ) → T (bad_entry n list i) ↔ BadEntry n list i
bad_entry_iff n list i =
    or_iff (leb n (held list i)) (with_earlier (same_entry list) i) (leb_iff n (held list i))
    (with_earlier_iff (same_entry list) (λ i j. held list i ≡ held list j) i (λ j l. eqb_iff (held list i) (held list j)))

-- 11
pub bad_number_iff : (n i q : ℕ) → T (bad_number n i q) ↔ ((n ≤ i) ⊎ (n ≤ q))
bad_number_iff n i q = or_iff (leb n i) (leb n q) (leb_iff n i) (leb_iff n q)
