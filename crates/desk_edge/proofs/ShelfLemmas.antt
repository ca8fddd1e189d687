-- What is taken of a file, and what is left of it.
use Rattle.std.proofs.Common.{◌≡◌, ◌∙◌, ap, sym, subst, refl, ℕ, ◌+◌, ◌-◌, ◌<◌, ◌≤◌, List, [], ◌++◌, length, drop, arith, length-append, Option, None, Some, Result, Err, unwrap_or}
use Rattle.std.specs.Prelude.{IfSome}
use Rattle.std.specs.Option.{option_map}
use Rattle.std.proofs.Math.Seq.{drop-append-add}
use Rattle.desk_edge.specs.Shelf.{Contents, most_bytes, file_at, bytes_at, files_of, begun, passed, put_back, Took, IsFront, Reads, Leaves}
use Rattle.desk_edge.specs.declared.reading.ReadFault.{ReadFault}
use Rattle.desk_edge.specs.declared.reading.ReadFault.TheVariants.{Failed, TooLong, NoMemory}

-- two errors of one answer are one
pub same_fault : {T : Type 0} (r : Result T ReadFault) (fault other : ReadFault) → r ≡ Err fault → r ≡ Err other → fault ≡ other
same_fault r fault other is also = cc

-- so many bytes behind those that were taken are left behind as many more than those
drop_past : (most : ℕ) (out rest : List ℕ) → length out ≤ most → drop most (out ++ rest) ≡ drop (most - length out) rest
drop_past most out rest le =
    let is : most ≡ length out + (most - length out) = omega arith in
    ap (λ (n : ℕ). drop n (out ++ rest)) is ∙ drop-append-add out rest (most - length out)

-- a file that is too long for what is left of the room is so from its beginning
pub too_long : (most : ℕ) (out : List ℕ) (mid start new : Option Contents) → length out ≤ most → put_back out mid ≡ start
    → IfSome mid (λ c. (most < length out + length c.rest) × (new ≡ Some (passed (most + 1 - length out) c)))
    → IfSome start (λ c. (most < length c.rest) × (new ≡ Some (passed (most + 1) c)))
too_long most out mid start new le is long =
    let Long : Option Contents → Type 0 = λ o. IfSome o (λ c. (most < length c.rest) × (new ≡ Some (passed (most + 1) c))) in
    subst Long is (at_mid mid long)
  where
    at_mid : (m : Option Contents) → IfSome m (λ c. (most < length out + length c.rest) × (new ≡ Some (passed (most + 1 - length out) c)))
        → IfSome (put_back out m) (λ c. (most < length c.rest) × (new ≡ Some (passed (most + 1) c)))
    at_mid None long = tt
    at_mid (Some c) long =
        let past : drop (most + 1) (out ++ c.rest) ≡ drop (most + 1 - length out) c.rest = drop_past (most + 1) out c.rest (omega arith) in (
          omega (arith, long.0, length-append out c.rest),
          long.1 ∙ ap (λ (l : List ℕ). Some (record c { rest = l })) (sym past),
        )

-- a path with bytes is that of a file
file_from_bytes : (o : Option (List ℕ)) (most : ℕ) (bytes : List ℕ) → most < length bytes → bytes ≡ unwrap_or o [] → o ≡ Some bytes
file_from_bytes None most bytes long is = absurd (omega (arith, ap length is))
file_from_bytes (Some file) most bytes long is = ap (λ (l : List ℕ). Some l) (sym is)

-- what a fault says of the files, from what it says of the file begun
pub reads_fault : (fault : ReadFault) (path out : List ℕ) (told mid new : Option Contents) → mid ≡ option_map (begun path) told
    → IfSome mid (λ c. IsFront out c.rest)
    → (fault ≡ TooLong → IfSome mid (λ c. (most_bytes < length c.rest) × (new ≡ Some (passed (most_bytes + 1) c))))
    → IfSome (files_of told) (λ files. Reads files path (Err fault) out)
reads_fault fault path out None mid new is front long = tt
reads_fault Failed path out (Some c) mid new is front long = let f = subst (λ (o : Option Contents). IfSome o (λ d. IsFront out d.rest)) is front in f
reads_fault NoMemory path out (Some c) mid new is front long = let f = subst (λ (o : Option Contents). IfSome o (λ d. IsFront out d.rest)) is front in f
reads_fault TooLong path out (Some c) mid new is front long =
    let f = subst (λ (o : Option Contents). IfSome o (λ d. IsFront out d.rest)) is front in
    let l = subst (λ (o : Option Contents). IfSome o (λ d. (most_bytes < length d.rest) × (new ≡ Some (passed (most_bytes + 1) d)))) is (long refl) in
    (bytes_at c.files path, file_from_bytes (file_at c.files path) most_bytes (bytes_at c.files path) l.0 refl, l.0, f)

-- what a fault leaves of the file, likewise
pub leaves_fault : (fault : ReadFault) (path : List ℕ) (told mid new : Option Contents) → mid ≡ option_map (begun path) told
    → files_of new ≡ files_of mid
    → (fault ≡ TooLong → IfSome mid (λ c. (most_bytes < length c.rest) × (new ≡ Some (passed (most_bytes + 1) c))))
    → IfSome new (Leaves path (Err fault))
leaves_fault Failed path told mid None is files long = tt
leaves_fault Failed path told mid (Some c) is files long = tt
leaves_fault NoMemory path told mid None is files long = tt
leaves_fault NoMemory path told mid (Some c) is files long = tt
leaves_fault TooLong path told mid None is files long = tt
leaves_fault TooLong path None mid (Some d) is files long = absurd (cc)
leaves_fault TooLong path (Some c) mid (Some d) is files long =
    let l = subst (λ (o : Option Contents). IfSome o (λ e. (most_bytes < length e.rest) × (Some d ≡ Some (passed (most_bytes + 1) e)))) is (long refl) in
    let same : d ≡ passed (most_bytes + 1) (begun path c) = cc in
    subst (Leaves path (Err TooLong)) (sym same) refl

-- so many bytes were taken after those of out
pub passed_back : (out : List ℕ) (count : ℕ) (mid start new : Option Contents) → put_back out mid ≡ start → new ≡ option_map (passed count) mid
    → new ≡ option_map (passed (length out + count)) start
passed_back out count None start new is moved = moved ∙ ap (option_map (passed (length out + count))) is
passed_back out count (Some c) start new is moved =
    moved ∙ ap (λ (l : List ℕ). Some (record c { rest = l })) (sym (drop-append-add out c.rest count)) ∙ ap (option_map (passed (length out + count))) is

-- the file has them, where what is left of it has so many
pub left_back : (out : List ℕ) (count : ℕ) (mid start : Option Contents) → put_back out mid ≡ start → IfSome mid (λ c. count ≤ length c.rest)
    → IfSome start (λ c. length out + count ≤ length c.rest)
left_back out count mid start is left = subst Has is (at_mid mid left)
  where
    Has : Option Contents → Type 0
    Has o = IfSome o (λ c. length out + count ≤ length c.rest)

    at_mid : (m : Option Contents) → IfSome m (λ c. count ≤ length c.rest) → Has (put_back out m)
    at_mid None left = tt
    at_mid (Some c) left = omega (arith, left, length-append out c.rest)

-- of the file that was begun
pub took : (count : ℕ) (path : List ℕ) (told mid new : Option Contents) → mid ≡ option_map (begun path) told → new ≡ option_map (passed count) mid → Took count path told new
took count path None mid new is moved = moved ∙ ap (option_map (passed count)) is
took count path (Some c) mid new is moved = moved ∙ ap (option_map (passed count)) is

-- and which has so many
pub left_begun : (count : ℕ) (path : List ℕ) (told mid : Option Contents) → mid ≡ option_map (begun path) told → IfSome mid (λ c. count ≤ length c.rest)
    → IfSome told (λ c. count ≤ length (bytes_at c.files path))
left_begun count path None mid is left = tt
left_begun count path (Some c) mid is left = let l = subst (λ (o : Option Contents). IfSome o (λ d. count ≤ length d.rest)) is left in l
