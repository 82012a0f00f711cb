-- What registration text promises: what is written is read back, what is accepted is what is written, and it is never damaged. Assumes nothing.
use Rattle.registration_text.specs.Theorems.{WrittenIsRead, AcceptedIsWritten, AcceptedIsSound}
use Rattle.registration_text.proofs.Rights.{undamaged_right, right_undamaged}
use Rattle.registration_text.proofs.ReadBack.{reads_all}
use Rattle.registration_text.proofs.WrittenAgain.{sound_read}

pub written_is_read : WrittenIsRead
written_is_read r sized undamaged = reads_all r (undamaged_right r sized undamaged)

pub accepted_is_written : AcceptedIsWritten
accepted_is_written text r read = (sound_read text r read).1

pub accepted_is_sound : AcceptedIsSound
accepted_is_sound text r read = right_undamaged r (sound_read text r read).0
