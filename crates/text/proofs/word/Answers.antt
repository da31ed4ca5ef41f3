-- `text::word` meets its contract. Assumes nothing.
use Rattle.std.proofs.Common.{◌≡◌, List, ℕ, ◌+◌, ◌≤◌, length, arith, ◌∙◌, refl, take_all}
use Rattle.std.proofs.Math.Seq.{paste}
use Rattle.std.proofs.lemmas.List.Edits.{sets, sets-eq}
use Rattle.std.proofs.lemmas.Slice.{put_mid-paste}
use Rattle.text.proofs.word.Goals as goal

-- A list copied over a part of another, as a store for each byte.
copied : (s b : List ℕ) (at : ℕ) → at + length s ≤ length b → paste b at s (length s) ≡ sets b at s
copied s b at h = rw (take_all (length s) s (omega arith), sets-eq s b at h)

pub returns : goal.returns
returns c = record {
  stop = refl;
  stored = put_mid-paste _ _ _ _ c.args.s.now _ c.copy_from_slice.ensures.after (omega arith) refl ∙ copied c.args.s.now c.args.out.now c.args.at c.requires;
}
