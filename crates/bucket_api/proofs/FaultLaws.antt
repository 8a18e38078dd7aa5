-- The count of faults that a pass has met.
use Rattle.std.proofs.Common.{◌≡◌, ℕ, ◌≤◌, refl, arith}
use Rattle.io_ports.specs.Faults.{Rose}
use Rattle.bucket_api.specs.declared.answers.Answer.{Answer}
use Rattle.bucket_api.specs.declared.answers.Answer.TheVariants.{Meta, Bytes, Page, Done, NotFound, Precondition, Fault}
use Rattle.bucket_api.specs.Passes.{faults_after}

-- it never falls
pub faults_never_fall : (answer : Answer) (faults : ℕ) → faults ≤ faults_after answer faults
faults_never_fall Fault faults = omega arith
faults_never_fall (Meta meta) faults = omega arith
faults_never_fall (Bytes bytes) faults = omega arith
faults_never_fall (Page page) faults = omega arith
faults_never_fall Done faults = omega arith
faults_never_fall NotFound faults = omega arith
faults_never_fall (Precondition generation metageneration) faults = omega arith

-- it rises where a fault is answered
pub faults_rise : (faults : ℕ) → Rose faults (faults_after Fault faults)
faults_rise faults = refl
