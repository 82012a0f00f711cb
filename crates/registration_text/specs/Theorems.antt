-- What registration text promises, as statements; `proofs/Theorems.antt` proves each. Assumes nothing.
use Rattle.std.specs.Prelude.{ℕ, ◌≡◌, false, List, Ok}
use Rattle.registration.specs.declared.Registration.{Registration}
use Rattle.registration.specs.Damage.{is_damaged, Sized}
use Rattle.registration_text.specs.Reader.{read_text}
use Rattle.registration_text.specs.Writer.{text_of}

-- a registration written out is read back equal
abbrev pub WrittenIsRead : Type 0
WrittenIsRead =
    (r : Registration) → Sized r → is_damaged r ≡ false
    → read_text (text_of r) ≡ Ok r

-- every text accepted is the one that the writer gives for what was read
abbrev pub AcceptedIsWritten : Type 0
AcceptedIsWritten = (text : List ℕ) (r : Registration) → read_text text ≡ Ok r → text_of r ≡ text

-- a registration that was read is never damaged
abbrev pub AcceptedIsSound : Type 0
AcceptedIsSound = (text : List ℕ) (r : Registration) → read_text text ≡ Ok r → is_damaged r ≡ false
