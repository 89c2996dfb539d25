-- Bytes of a reader, where they are known. Assumes nothing.
use Rattle.std.proofs.Common.{ℕ, ◌≡◌, ◌∙◌, ◌+◌, ◌≤◌, ◌++◌, List, Option, None, Some, Result, Ok, Err, IfSome, OnOk, length, take, ap}
use Rattle.std.proofs.Math.Seq.{take-append-add}
use Rattle.std.proofs.lemmas.List.{take-append-le}
use Rattle.std.proofs.KnownBytes.{Consumes-trans}
use Rattle.std.specs.Io.KnownBytes.{Consumes}

-- a read into a list behind its front, which holds what was read before
pub read_on : (a b c : Option (List ℕ)) (front part rest : List ℕ) (at n : ℕ) → length front ≡ at → n ≤ length part
    → Consumes a b front → Consumes b c (take n part) → Consumes a c (take (at + n) (front ++ (part ++ rest)))
read_on a b c front part rest at n long fits before read =
    let all : take (at + n) (front ++ (part ++ rest)) ≡ front ++ take n part =
    rw (← long) (take-append-add front (part ++ rest) n ∙ ap (λ l. front ++ l) (take-append-le n part rest fits)) in
    rw all (Consumes-trans a b c front (take n part) before read)

-- what is so of the bytes that were read is so of the reader's first
pub of_first : {A E : Type 0} (r : Result A E) (known : Option (List ℕ)) (P : List ℕ → Type 0) (read text : List ℕ) (most : ℕ) → most ≡ length text
    → IfSome known (λ bytes. read ≡ take (length text) bytes) → OnOk r (P read) → OnOk r (IfSome known (λ bytes. P (take most bytes)))
of_first (Err e) known P read text most long first h = tt
of_first (Ok x) None P read text most long first h = tt
of_first (Ok x) (Some bytes) P read text most long first h = rw (long, ← first) h
