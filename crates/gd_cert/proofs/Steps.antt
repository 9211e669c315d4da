-- One line after the other.
use Rattle.std.proofs.Common.{◌≡◌, ℕ, ◌+◌, ◌<◌, ◌==◌, List, [], ◌∷◌, length, arith, sym, ◌∙◌, ap}
use Rattle.std.specs.Prelude.{Result, Ok, Err}
use Rattle.std.proofs.lemmas.List.Splits.{length-slice_split}
use Rattle.gd_base.specs.Causes.{Gives, IsCause}
use Rattle.gd_cert.specs.Reading.{Draft, cert_cause, drafted_from, on_line, with_line}
use Rattle.gd_cert.specs.Words.{and_then_read, pieces, words_of}
use Rattle.gd_cert.specs.declared.fault.CertFault.{CertFault}
use Rattle.gd_cert.specs.declared.fault.CertReadFault.{CertReadFault}
use Rattle.gd_cert.specs.declared.fault.CertReadFault.TheVariants as read_fault

some_pieces : (bytes : List ℕ) → 0 < length (pieces 10 bytes)
some_pieces bytes = let count = length-slice_split (λ b. b == 10) bytes in omega (arith, count)

step_on : (line : ℕ) (d e : Draft) (piece : List ℕ) (rest : List (List ℕ)) → 0 < length rest → on_line line (with_line line (words_of piece) d) ≡ Ok e
    → drafted_from line d (piece ∷ rest) ≡ drafted_from (line + 1) e rest
step_on line d e piece [] some h = absurd (omega arith)
step_on line d e piece (next ∷ rest) some h = ap (λ r. and_then_read r (λ u. drafted_from (line + 1) u (next ∷ rest))) h

-- a line that is taken leaves the lines behind it
pub took : (line : ℕ) (d e : Draft) (piece more rest : List ℕ) → pieces 10 rest ≡ piece ∷ pieces 10 more → on_line line (with_line line (words_of piece) d) ≡ Ok e
    → drafted_from (line + 1) e (pieces 10 more) ≡ drafted_from line d (pieces 10 rest)
took line d e piece more rest cut h = sym (ap (drafted_from line d) cut ∙ step_on line d e piece (pieces 10 more) (some_pieces more) h)

fault_on : (line : ℕ) (d : Draft) (f : CertFault) (piece : List ℕ) (rest : List (List ℕ)) → 0 < length rest → on_line line (with_line line (words_of piece) d) ≡ Err f
    → drafted_from line d (piece ∷ rest) ≡ Err f
fault_on line d f piece [] some h = absurd (omega arith)
fault_on line d f piece (next ∷ rest) some h = ap (λ r. and_then_read r (λ u. drafted_from (line + 1) u (next ∷ rest))) h

-- a line that is not taken is the fault of the file
pub failed : (line : ℕ) (d new : Draft) (fault : CertReadFault) (piece more rest : List ℕ) → pieces 10 rest ≡ piece ∷ pieces 10 more
    → Gives {X = Unit {0}} cert_cause (λ x. new) (Err fault) (on_line line (with_line line (words_of piece) d)) → IsCause (cert_cause fault) (drafted_from line d (pieces 10 rest))
failed line d new read_fault.Memory piece more rest cut h = tt
failed line d new (read_fault.Cert f) piece more rest cut h = ap (drafted_from line d) cut ∙ fault_on line d f piece (pieces 10 more) (some_pieces more) h

-- a fault stays
pub fails_on : {A B : Type 0} (fault : CertReadFault) (r : Result A CertFault) (next : A → Result B CertFault) → IsCause (cert_cause fault) r → IsCause (cert_cause fault) (and_then_read r next)
fails_on read_fault.Memory r next h = tt
fails_on (read_fault.Cert f) r next h = ap (λ x. and_then_read x next) h
