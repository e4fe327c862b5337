-- Files of which a digest is kept.
use Rattle.std.specs.Prelude.{◌≡◌, ◌⊎◌, ℕ, List, Option, Some}
use Rattle.node_names.specs.declared.name.Name.{Name}
use Rattle.hal_outside.specs.declared.got.Got.{Got}
use Rattle.hal_outside.specs.declared.got.Got.TheVariants as got
use Rattle.hal_outside.specs.DiskCalls.{Same, Gone, Other, Read}
use Rattle.hal_outside.specs.DiskTold.{DiskTold, Done, Lacks}
use Rattle.node_files.specs.declared.files.FileRef.{FileRef}
use Rattle.node_files.specs.declared.files.Fetched.{Fetched}
use Rattle.node_files.specs.declared.files.Fetched.TheVariants.{Bytes, Missed}
use Rattle.sha2.specs.Sha256.{sha256}

-- the file of these bytes, with their SHA-256
abbrev pub file_of : ℕ → Name → List ℕ → FileRef
file_of node name bytes = record { node = node; name = name; digest = record { 0 = sha256 bytes } }

-- what a read of a file found
abbrev pub fetched_of : Got → Fetched
fetched_of (got.Same bytes) = Bytes bytes
fetched_of got.Gone = Missed
fetched_of got.Other = Missed

-- bytes that were fetched have this digest
abbrev pub HasDigest : List ℕ → Fetched → Type 0
HasDigest digest (Bytes bytes) = sha256 bytes.items ≡ digest
HasDigest digest Missed = Unit {0}

-- p where the file was missed
abbrev pub OnMissed : Fetched → Type 0 → Type 0
OnMissed (Bytes bytes) p = Unit {0}
OnMissed Missed p = p

-- the bytes are those of the file that lies there; it is missed where there is none, or one with another digest
abbrev pub IsFound : Option (List ℕ) → List ℕ → Fetched → Type 0
IsFound file digest (Bytes bytes) = file ≡ Some bytes.items
IsFound file digest Missed = Lacks file digest

-- the file was read with its kept digest: the answer was these bytes, or that it is gone or another
abbrev pub IsFetched : FileRef → Fetched → DiskTold → DiskTold → Type 0
IsFetched file (Bytes bytes) old new = Done (Read file.node file.name file.digest.0 (Same bytes.items)) old new
IsFetched file Missed old new = Done (Read file.node file.name file.digest.0 Gone) old new ⊎ Done (Read file.node file.name file.digest.0 Other) old new
