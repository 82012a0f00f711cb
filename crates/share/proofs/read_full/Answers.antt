-- `share::read_full` meets its contract: what a turn puts behind the bytes before it, the reader has lost. Assumes nothing.
use Prim.Native.Nat.{ℕ, ◌+◌, ◌-◌, ◌≤◌}
use mathlib.Core.Path.{◌≡◌, sym, ap, subst, ◌∙◌}
use mathlib.Core.List.{List, ◌++◌}
use native.Mathlib.Nat.{le_refl}
use borrow.Author.Rules.{rules}
use borrow.Rule.Slice.PartMut.{put_mid, post_of}
use lib.ListN.{length, take, drop}
use lib.Seq.{drop_at, length-take-le, take-add, take-append-le}
use Rattle.std.proofs.KnownBytes.{Consumes-trans}
use Rattle.std.proofs.lemmas.Slice.{take-put_mid_below}
use Rattle.std.specs.Io.KnownBytes.{Consumes}
use Rattle.share.proofs.read_full.Goals as goal

-- the front of a list in which a part was put: what stood before the part, and the part's front
joined : (at room more : ℕ) (before part : List ℕ) → at ≤ length before → more ≤ length part
    → take at before ++ take more part ≡ take (at + more) (put_mid at room before part)
joined at room more before part h k =
    let rest = drop_at (take at before) (part ++ post_of at room before) at (length-take-le at before h) in
    let front = take-put_mid_below at room before part at (le_refl at) h in
    sym
    (take-add at more (put_mid at room before part)
    ∙ ap (λ (l : List ℕ). l ++ take more (drop at (put_mid at room before part))) front
    ∙ ap (λ (l : List ℕ). take at before ++ take more l) rest
    ∙ ap (λ (l : List ℕ). take at before ++ l) (take-append-le more part (post_of at room before) k))

pub loop-count-preserved : goal.loop-count-preserved
loop-count-preserved g c =
    let at = c.loop-count in
    let put = joined at.count (length at.space - at.count) c.in_ok-more.more at.space c.read.new.buf at.invariant.0 c.in_ok-more.ensures.bound.0 in
    (search rules, subst (Consumes _ _) put (Consumes-trans _ _ _ _ _ at.invariant.1 c.in_ok-more.ensures.bytes.0))
