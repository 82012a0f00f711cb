-- What is read of an input is answered as the whole input is: all of it, or of one that is too long a byte more than an input may have. Assumes nothing.
use Prim.Native.Nat.{ℕ, ◌+◌, ◌≤◌, ◌<◌}
use mathlib.Core.Path.{◌≡◌, sym, ap, subst, ◌∙◌}
use mathlib.Core.List.{List, [], ◌++◌, append-nil}
use native.Mathlib.Omega.{arith}
use borrow.Author.Tests.{lt-ltb, ltb-true, ltb-false}
use lib.Dec.{ltb}
use lib.ListN.{length, take, length-append}
use lib.Seq.{length-take-le}
use Rattle.std.specs.Prelude.{Option, None, Some, IfSome, Err}
use Rattle.std.specs.Io.KnownBytes.{Appends, Consumes, IsAtEnd}
use Rattle.answers.specs.declared.Refusal.TheVariants.{NotInColumns}
use Rattle.answers.specs.Order.{refuse◌if◌else◌}
use Rattle.event_text.specs.Share.{input_most, opening_of, share_if, share}
use Rattle.lists.proofs.Cases.{by_test}

-- an input that is too long is answered by 1, whatever its bytes are
too_long : (text : List ℕ) → input_most < length text → share text ≡ share_if (Err NotInColumns) text
unfolding share opening_of refuse◌if◌else◌
too_long text h = rw (lt-ltb input_most (length text) h)

-- the whole text is answered as what was read of it
answered_alike : (text space rest : List ℕ) (count : ℕ) → length space ≡ input_most + 1 → count ≤ length space → text ≡ take count space ++ rest
    → (count < length space → rest ≡ []) → share (take count space) ≡ share text
answered_alike text space rest count size h e ends =
    by_test (ltb count (length space))
    (λ t. ap share (sym (e ∙ rw (ends (ltb-true count (length space) t)) (append-nil (take count space)))))
    (λ f.
    let front = length-take-le count space h in
    let whole = ap length e ∙ length-append (take count space) rest in
    let all = ltb-false count (length space) f in
    too_long (take count space) (omega (arith, front, all)) ∙ sym (too_long text (omega (arith, front, all, whole))))

-- so what is written for what was read is written for all that the reader had left
pub written_whole : (had left held holds : Option (List ℕ)) (space bytes : List ℕ) (count : ℕ) → length space ≡ input_most + 1 → count ≤ length space
    → Consumes had left (take count space) → (count < length space → IsAtEnd left) → bytes ≡ share (take count space) → Appends held holds bytes
    → IfSome had (λ text. Appends held holds (share text))
written_whole None left held holds space bytes count size h consumed ends e written = tt
written_whole (Some text) None held holds space bytes count size h consumed ends e written = absurd consumed
written_whole (Some text) (Some rest) held holds space bytes count size h consumed ends e written =
    subst (Appends held holds) (e ∙ answered_alike text space rest count size h consumed ends) written
