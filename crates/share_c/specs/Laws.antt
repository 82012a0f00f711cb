-- What a refused call gives beside its number: zeros, written out here, so that the laws do not follow the definitions; the proofs stand in proofs/Laws.antt. Assumes nothing.
use Rattle.std.specs.Prelude.{ℕ, ◌≡◌, List, Err, replicate}
use Rattle.answers.specs.declared.Refusal.{Refusal}
use Rattle.answers.specs.Numbers.{number_of}
use Rattle.registration.specs.declared.Registration.{Registration}
use Rattle.registration_text.specs.Reader.{read_text}
use Rattle.registration_text.specs.Writer.{bytes_written}
use Rattle.service.specs.declared.Service.{Service}
use Rattle.service.specs.Promises.{fresh_of}
use Rattle.share_c.specs.Promises.{read_answer, write_answer, fresh_answer}

-- a registration of zeros
abbrev pub zeros_registered : Registration
zeros_registered =
    record {
      producers = 0;
      consumers = 0;
      iteration = 0;
      codes = replicate 64 0;
      statuses = replicate 64 0;
      counts = replicate 64 0;
      sources = replicate 320 0;
      keys = replicate 320 0;
    }

-- a record of zeros
abbrev pub zeros_kept : Service
zeros_kept = record { registration = zeros_registered; state = record { last = 0; numbers = record { kept_stamp = 0; kept_day = 0; entries = 0 } } }

-- a refused text gives the number of its refusal, and a registration of zeros
abbrev pub RefusedTextGivesZeros : Type 0
RefusedTextGivesZeros =
    (text : List ℕ) (refusal : Refusal) → read_text text ≡ Err refusal
    → read_answer text ≡ record { answer = number_of refusal; registration = zeros_registered }

-- a registration that is refused by the writer gives the number of its refusal, and no bytes
abbrev pub RefusedWriteGivesZero : Type 0
RefusedWriteGivesZero =
    (r : Registration) (before : List ℕ) (refusal : Refusal) → bytes_written r before ≡ Err refusal
    → write_answer (bytes_written r before) ≡ record { answer = number_of refusal; bytes = 0 }

-- a registration of which no service is made gives the number of its refusal, and a record of zeros
abbrev pub RefusedFreshGivesZeros : Type 0
RefusedFreshGivesZeros =
    (r : Registration) (refusal : Refusal) → fresh_of r ≡ Err refusal → fresh_answer r ≡ record { answer = number_of refusal; service = zeros_kept }
