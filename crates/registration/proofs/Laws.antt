-- What users of a registration rely on. Assumes nothing.
use Rattle.registration.specs.Laws.{CodeTestIs, OneDigitErrors, KeysByPair}
use Rattle.registration.proofs.CodeTest.{accepted_true, true_accepted}
use Rattle.registration.proofs.OneDigit.{one_digit_false}
use Rattle.registration.proofs.KeysByPair.{by_pair}

pub code_test_is : CodeTestIs
code_test_is code = (accepted_true code, true_accepted code)

pub one_digit_errors : OneDigitErrors
one_digit_errors code other place t h altered others = one_digit_false code other place t h altered others

pub keys_by_pair : KeysByPair
keys_by_pair r points named unused producer = by_pair r points named unused producer
