-- Memory is wanted only for files that are there.
use Rattle.std.proofs.Common.{◌≡◌, ℕ, ◌+◌, ◌<◌, ◌≤◌, arith, List, [], length, Option, Some, None, Result, Ok, Err, refl, ap}
use Rattle.std.specs.Prelude.{IfSome, IsSome, IsErrOf, unwrap_or}
use Rattle.desk_edge.specs.Shelf.{Contents, file_at, bytes_at, files_of}
use Rattle.desk_edge.specs.declared.reading.ReadFault.{ReadFault}
use Rattle.desk_edge.specs.declared.reading.ReadFault.TheVariants as read_fault
use Rattle.market_tables.specs.Given.{◌>>=◌}
use Rattle.market_loader.specs.declared.faults.FileFault.{FileFault}
use Rattle.market_loader.specs.declared.faults.FileFault.TheVariants as file
use Rattle.market_loader.specs.declared.faults.LoadFault.{LoadFault}
use Rattle.market_loader.specs.declared.faults.LoadFault.TheVariants as load
use Rattle.market_loader.specs.declared.faults.MarketRole.{MarketRole}
use Rattle.market_loader.specs.declared.faults.MarketRole.TheVariants as role
use Rattle.market_loader.specs.Ends.{with_fault}
use Rattle.market_loader.specs.Faults.{file_fault, role_fault}
use Rattle.market_loader.specs.Files.{Files, file_in}
use Rattle.market_loader.specs.Market.{Texts, part_of, with_text, texts_of}

-- bytes that found no room are bytes of a file
pub some_left : (told : Option Contents) (path : List ℕ) (front count : ℕ) → 0 < count
    → IfSome told (λ c. front + count ≤ length (bytes_at c.files path)) → IfSome told (λ c. 0 < length (bytes_at c.files path))
some_left None path front count some left = tt
some_left (Some c) path front count some left = omega (arith, some, left)

read_halted : (fault : ReadFault) → file_fault fault ≡ file.NoMemory → fault ≡ read_fault.NoMemory
read_halted read_fault.Failed is = absurd (cc)
read_halted read_fault.TooLong is = absurd (cc)
read_halted read_fault.NoMemory is = refl

pub err_is : {X E : Type 0} (e f : E) → IsErrOf {T = X} (Err e) f → e ≡ f
err_is e f is = cc

-- a read that halted is of a file that is there
pub file_there : (X : Type 0) (told : Option Contents) (path : List ℕ) (fault : ReadFault)
    → (fault ≡ read_fault.NoMemory → IfSome told (λ c. 0 < length (bytes_at c.files path)))
    → IfSome (files_of told) (λ files. IsErrOf {T = X} (Err (file_fault fault)) file.NoMemory → IsSome (file_at files path))
file_there X None path fault halts = tt
file_there X (Some c) path fault halts = λ is. has (file_at c.files path) (halts (read_halted fault (err_is (file_fault fault) file.NoMemory is)))
  where
    has : (found : Option (List ℕ)) → 0 < length (unwrap_or found []) → IsSome found
    has None more = absurd (omega (arith, more))
    has (Some text) more = refl

role_halted : (which : MarketRole) (fault : FileFault) → role_fault which fault ≡ load.NoMemory → fault ≡ file.NoMemory
role_halted which file.Absent is = absurd (cc)
role_halted role.Market file.TooLong is = absurd (cc)
role_halted role.Quotes file.TooLong is = absurd (cc)
role_halted role.Fixings file.TooLong is = absurd (cc)
role_halted which file.Read is = absurd (cc)
role_halted which file.NoMemory is = refl

-- so is that of a market's file
pub part_halts : (X Y : Type 0) (told : Option Files) (path : List ℕ) (which : MarketRole) (fault : FileFault)
    → IfSome told (λ files. IsErrOf {T = X} (Err fault) file.NoMemory → IsSome (file_at files path))
    → IfSome told (λ files. IsErrOf {T = Y} (Err (role_fault which fault)) load.NoMemory → IsSome (file_at files path))
part_halts X Y None path which fault there = tt
part_halts X Y (Some files) path which fault there =
    λ is. there (ap (λ (f : FileFault). Err f) (role_halted which fault (err_is (role_fault which fault) load.NoMemory is)))

-- what was read is there
pub part_there : (which : MarketRole) (path : List ℕ) (files : Files) (text : List ℕ) → part_of which path files ≡ Ok text
    → IsSome (file_at files path)
part_there which path files text is = by (file_at files path) is
  where
    by : (found : Option (List ℕ)) → with_fault (role_fault which) (file_in found) ≡ Ok text → IsSome found
    by None read = absurd (let none : Err (load.Absent which) ≡ Ok text = read in cc)
    by (Some found) read = refl

pub texts_there : (path : List ℕ) (files : Files) (all : Texts) → texts_of path files ≡ Ok all → IsSome (file_at files path)
texts_there path files all is = by (file_at files path) is
  where
    by : (found : Option (List ℕ))
        → (with_fault (role_fault role.Market) (file_in found) >>= (λ text. with_text text files)) ≡ Ok all → IsSome found
    by None read = absurd (let none : Err (load.Absent role.Market) ≡ Ok all = read in cc)
    by (Some found) read = refl
