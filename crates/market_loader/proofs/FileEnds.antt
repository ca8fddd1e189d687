-- A file that was not read: what its fault says of it, and of the shelf.
use Rattle.std.proofs.Common.{◌≡◌, ◌∙◌, inl, inr, ℕ, ◌+◌, ◌<◌, ◌≤◌, Bool, List, length, Option, Some, None, Ok, Err, refl, ap}
use Rattle.std.specs.Prelude.{IfSome, if◌then◌else◌}
use Rattle.std.proofs.lemmas.Bool.{lt-ltb}
use Rattle.desk_edge.specs.Count.{Rose}
use Rattle.desk_edge.specs.Shelf.{Contents, most_bytes, file_at, files_of, Reads as ReadsFile, faults_after as read_after}
use Rattle.desk_edge.specs.declared.reading.ReadFault.{ReadFault}
use Rattle.desk_edge.specs.declared.reading.ReadFault.TheVariants as read_fault
use Rattle.market_loader.specs.declared.faults.FileFault.TheVariants as file
use Rattle.market_loader.specs.declared.faults.MarketRole.TheVariants as role
use Rattle.market_loader.specs.Ends.{Missing, Failed, file_end}
use Rattle.market_loader.specs.Faults.{file_fault}
use Rattle.market_loader.specs.Files.{Files, file_in, file_of, file_calls}
use Rattle.market_loader.specs.Reads.{seen, Tells, faults_at, Reads}
use Rattle.market_loader.proofs.Calls.{read_calls}
use Rattle.market_loader.proofs.Steps.{told_map}

long_text : (text : List ℕ) → most_bytes < length text → file_in (Some text) ≡ Err file.TooLong
long_text text long = ap (λ (b : Bool). if b then Err file.TooLong else Ok text) (lt-ltb most_bytes (length text) long)

failed_tells : {X : Type 0} (view : X → List ℕ) (path : List ℕ) (fault : ReadFault) (files : Files) (bytes : List ℕ)
    → ReadsFile files path (Err fault) bytes → Tells file_end view (Err (file_fault fault)) (file_of path files)
failed_tells view path read_fault.Failed files bytes reads = inl tt
failed_tells view path read_fault.NoMemory files bytes reads = inl tt
failed_tells view path read_fault.TooLong files bytes reads =
    inr (ap (λ (o : Option (List ℕ)). file_in o) reads.1 ∙ long_text reads.0 reads.2)

failed_read : {Rises : Type 0} (fault : ReadFault) → (fault ≡ read_fault.Failed → Rises)
    → file_end (file_fault fault) ≡ Failed → Rises
failed_read read_fault.Failed rises is = rises refl
failed_read read_fault.NoMemory rises is = absurd (cc)
failed_read read_fault.TooLong rises is = absurd (cc)

failed_there : {Rises : Type 0} (fault : ReadFault) → file_end (file_fault fault) ≡ Missing → Rises
failed_there read_fault.Failed is = absurd (cc)
failed_there read_fault.NoMemory is = absurd (cc)
failed_there read_fault.TooLong is = absurd (cc)

failed_counted : (fault : ReadFault) (faults : ℕ)
    → read_after {T = Bool} (Err fault) faults ≡ faults_at (file_end (file_fault fault)) faults
failed_counted read_fault.Failed faults = refl
failed_counted read_fault.NoMemory faults = refl
failed_counted read_fault.TooLong faults = refl

pub file_failed : {X : Type 0} (view : X → List ℕ) (path : List ℕ) (fault : ReadFault) (told now : Option Contents)
    (bytes : List ℕ) (faults faults2 misses misses2 calls calls2 : ℕ) → files_of now ≡ files_of told
    → IfSome (files_of told) (λ files. ReadsFile files path (Err fault) bytes) → calls2 ≤ calls + length bytes + 2
    → length bytes ≤ most_bytes → IfSome told (λ c. file_at c.files path ≡ None → calls2 ≤ calls + 1)
    → (fault ≡ read_fault.Failed → Rose faults faults2) → faults2 ≡ read_after {T = Bool} (Err fault) faults
    → faults ≤ faults2 → misses ≤ misses2
    → Reads file_end view (file_of path) (file_calls path) (seen told faults misses calls) (seen now faults2 misses2 calls2)
    (Err (file_fault fault))
file_failed view path fault told now bytes faults faults2 misses misses2 calls calls2 same reads few most once rises counted more missed = record {
  tells = told_map (files_of told) (λ files r. failed_tells view path fault files bytes r) reads;
  calls = read_calls told path (Err fault) bytes calls calls2 reads few most once;
  files = same;
  read = λ is. failed_read fault rises is;
  absent = λ is. failed_there fault is;
  counted = counted ∙ failed_counted fault faults;
  faults = more;
  misses = missed;
}
