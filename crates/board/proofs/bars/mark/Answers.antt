-- `board::bars::mark` meets its contract. Assumes nothing.
use mathlib.Core.Path.{◌≡◌}
use mathlib.Core.Bool.{cond, ◌&&◌}
use mathlib.Core.List.{List}
use Prim.Native.Nat.{ℕ, ◌-◌, ◌≤◌, ◌<◌}
use native.Mathlib.Decide.{dec_lt}
use native.Mathlib.Omega.{arith}
use borrow.Author.Rules.{rules}
use borrow.Rule.Slice.PartMut.{put_mid}
use lib.Dec.{leb, ltb}
use lib.ListN.{length, get_or, replicate, take, drop}
use Rattle.std.proofs.Common.{le-leb, lt-ltb, le-ltb}
use Rattle.std.proofs.lemmas.Bool.{lt-leb}
use Rattle.std.proofs.lemmas.List.{places}
use Rattle.slots.specs.Slots.{Shut}
use Rattle.board.proofs.bars.mark.Goals as goal

-- Ones in the place of a part are marks.
marked : (a c : ℕ) (w : List ℕ) → a ≤ c → c ≤ length w → Shut a c w (put_mid a (c - a) w (replicate (c - a) 1))
marked a c w h l = record { long = search (rules, places); marks = λ q u. go q u (dec_lt q a) (dec_lt q c) }
  where
    go : (q : ℕ) → q < length w → Dec (q < a) → Dec (q < c) → get_or (put_mid a (c - a) w (replicate (c - a) 1)) q 0 ≡ cond (leb a q && ltb q c) 1 (get_or w q 0)
    go q u (yes s) t = rw (lt-leb a q s) (search (rules, places))
    go q u (no s) (yes t) = rw (le-leb a q (omega arith), lt-ltb q c t) (search (rules, places))
    go q u (no s) (no t) = rw (le-leb a q (omega arith), le-ltb q c (omega arith)) (search (rules, places))

pub returns : goal.returns
returns c =
    let many : length (take (c.args.to - c.args.from) (drop c.args.from c.args.bars.now)) ≡ c.args.to - c.args.from = search (rules, places) in
    let ones : c.fill.new.self ≡ replicate (c.args.to - c.args.from) 1 = rw many at (c.fill.ensures.after (λ y e. e)) in
    rw ones (marked c.args.from c.args.to c.args.bars.now c.requires.0 c.requires.1)
