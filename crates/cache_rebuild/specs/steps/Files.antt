-- Files that differ in one number.
use Rattle.std.specs.Prelude.{ℕ, List, [], Option, None, Some, map}
use Rattle.node_names.specs.declared.name.Name.{Name}
use Rattle.node_names.specs.declared.name.Name.TheVariants.{Out, Spill}
use Rattle.run_model.specs.Lists.{below}
use Rattle.cache_rebuild.specs.declared.files.Files.{Files}
use Rattle.cache_rebuild.specs.declared.files.Files.TheVariants.{Parts, Single, Spills}

-- how many files there are
abbrev pub count_of : Files → ℕ
count_of (Single name) = 1
count_of (Spills i j s splits) = splits
count_of (Parts i j parts) = parts

-- the file of a number
abbrev pub name_of : Files → ℕ → Name
name_of (Single name) k = name
name_of (Spills i j s splits) k = Spill i j s k
name_of (Parts i j parts) k = Out i j k

-- the files, in order
abbrev pub files_in : Files → List Name
files_in files = map (name_of files) (below (count_of files))

-- the files, if there are any
abbrev pub files_if : Option Files → List Name
files_if None = []
files_if (Some files) = files_in files
