use Rattle.std.proofs.Common.{◌≡◌, ℕ, ◌+◌, ◌-◌, ◌≤◌, List, ◌++◌, length, take, arith, rules, refl, ap, sym, ◌∙◌, append_assoc, None, Some, Option, length-append}
use Rattle.std.proofs.Math.Seq.{take-append-add}
use Rattle.std.proofs.lemmas.List.{take_all, length-take-le}
use Rattle.std.proofs.lemmas.Slice.{take-put_mid, overwrites}
use Rattle.std.specs.Io.KnownBytes.{Consumes}
use borrow.Rule.Slice.PartMut.{put_mid}
use Rattle.streams.proofs.read_full.Goals as goal

-- What one read and the next consumed, in a row.
consumed_then : (a b c : Option (List ℕ)) (xs ys : List ℕ) → Consumes a b xs → Consumes b c ys → Consumes a c (xs ++ ys)
consumed_then None b c xs ys p q = tt
consumed_then (Some a) None c xs ys p q = absurd p
consumed_then (Some a) (Some b) None xs ys p q = q
consumed_then (Some a) (Some b) (Some c) xs ys p q = p ∙ ap (λ (l : List ℕ). xs ++ l) q ∙ sym (append_assoc xs ys c)

-- A buffer whose rest was written anew, and the front of it.
module _ (n : ℕ) (xs ys : List ℕ) (inside : n ≤ length xs) (long : length ys ≡ length xs - n) where
  anew : put_mid n (length xs - n) xs ys ≡ take n xs ++ ys
  anew =
      let size : length (put_mid n (length xs - n) xs ys) ≤ n + length ys = search (rules, overwrites) in
      sym (take_all _ _ size) ∙ take-put_mid n (length xs - n) xs ys _ refl inside

  front_read : (k : ℕ) → take (n + k) (put_mid n (length xs - n) xs ys) ≡ take n xs ++ take k ys
  front_read k = rw anew (rw (length-take-le n xs inside) at (take-append-add (take n xs) ys k))

pub loop-n-preserved : goal.loop-n-preserved
loop-n-preserved g c =
    let inside = c.loop-n.invariant.within in
    let long : length c.read.new.buf ≡ length c.loop-n.buf - c.loop-n.n = search (rules, c.read.auto.buf) in
    let few = c.in_ok-k.ensures.bound.0 in
    record {
      within = rw (anew c.loop-n.n c.loop-n.buf c.read.new.buf inside long) (omega (arith, length-append (take c.loop-n.n c.loop-n.buf) c.read.new.buf, length-take-le c.loop-n.n c.loop-n.buf inside));
      bytes = rw (front_read c.loop-n.n c.loop-n.buf c.read.new.buf inside long c.in_ok-k.k)
          (consumed_then _ _ _ _ _ c.loop-n.invariant.bytes c.in_ok-k.ensures.bytes.0);
    }
