-- Claims about every list of calls, whatever is called and whatever the book. Assumes nothing.
use Rattle.std.specs.Prelude.{ℕ, ◌≡◌, Bool, false, List, [], ◌∷◌, Some, slice_get}

-- what is seen of each call of a list: each gets the state as the one before left it
unfoldable pub run : {State Call Seen : Type 0} → (State → Call → Seen) → (State → Call → State) → State → List Call → List Seen
run look next state [] = []
run look next state (call ∷ calls) = look state call ∷ run look next (next state call) calls

-- each accepted call of a list is right by the book, the book being as the earlier calls of the list made it
abbrev pub AllRight : {Book Call Seen : Type 0} → (refused : Seen → Bool) → (after : Book → Call → Bool → Book) → (Right : Book → Call → Seen → Type 0)
    → Book → List Call → List Seen → Type 0
AllRight refused after Right book [] seen = Unit {0}
AllRight refused after Right book (call ∷ calls) [] = ⊥
AllRight refused after Right book (call ∷ calls) (a ∷ seen) =
    (refused a ≡ false → Right book call a) × AllRight refused after Right (after book call (refused a)) calls seen

-- call number i of the list, from 0, and what was seen of it
abbrev pub Made : {Call Seen : Type 0} → List Call → List Seen → ℕ → Call → Seen → Type 0
Made calls seen i call a = (slice_get calls i ≡ Some call) × (slice_get seen i ≡ Some a)
