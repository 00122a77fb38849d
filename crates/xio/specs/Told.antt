-- What an object of files may tell of itself, and how each call changes it.
use Rattle.std.specs.Prelude.{ℕ, nat_eq, ◌+◌, List, [], ◌∷◌, ◌++◌, length, take, drop, if◌then◌else◌, Result, Ok, Err}
use Rattle.std.specs.Cmp.Lexicographic.{pointwise}
use Rattle.xio.specs.Handles.{set_at}
use Rattle.xio.specs.declared.files.FileFault.{FileFault}
use Rattle.xio.specs.declared.files.FileFault.TheVariants.{Failed, OutOfMemory}

pub record Told : Type 0 where
  -- by name; a name that is not there has no bytes
  pub content : List ℕ → List ℕ
  -- by name: how many bytes of a made file are flushed
  pub flushed : List ℕ → ℕ
  -- the names of the calls of `open_file`, in order, but for those that wanted memory
  pub asked : List (List ℕ)
  -- by call, from 0: the place up to which its file was taken, 0 where no file was opened
  pub places : ℕ → ℕ
  -- the names of the calls of `make_file`, in order, but for those that wanted memory
  pub made : List (List ℕ)
  -- by open number: its name
  pub name_of : ℕ → List ℕ
  -- by opened number: its call
  pub call_of : ℕ → ℕ

-- what is told of no files
abbrev pub told_none : Told
told_none = record { content = λ _. []; flushed = λ _. 0; asked = []; places = λ _. 0; made = []; name_of = λ _. []; call_of = λ _. 0 }

-- f with v at this name
abbrev pub set_named : {V : Type 0} → (List ℕ → V) → List ℕ → V → List ℕ → V
set_named f name v other = if pointwise nat_eq other name then v else f other

-- what is left of an opened file
abbrev pub rest_of : Told → ℕ → List ℕ
rest_of t file = drop (t.places (t.call_of file)) (t.content (t.name_of file))

-- one more call, whose file is taken up to its first byte
abbrev pub after_ask : Told → List ℕ → Told
after_ask t name = record t {
  asked = t.asked ++ name ∷ [];
  places = set_at t.places (length t.asked) 0;
}

abbrev pub after_open : Told → List ℕ → Result ℕ FileFault → Told
after_open t name (Ok n) = record (after_ask t name) {
  name_of = set_at t.name_of n name;
  call_of = set_at t.call_of n (length t.asked);
}
after_open t name (Err Failed) = after_ask t name
after_open t name (Err OutOfMemory) = t

-- one more call; at `Ok` the named file is there and empty, whatever it held, and nothing of it is flushed
abbrev pub after_make : Told → List ℕ → Result ℕ FileFault → Told
after_make t name (Ok n) = record t {
  made = t.made ++ name ∷ [];
  content = set_named t.content name [];
  flushed = set_named t.flushed name 0;
  name_of = set_at t.name_of n name;
}
after_make t name (Err Failed) = record t { made = t.made ++ name ∷ [] }
after_make t name (Err OutOfMemory) = t

abbrev pub after_read : {E : Type 0} → Told → ℕ → Result ℕ E → Told
after_read t file (Ok n) = record t { places = set_at t.places (t.call_of file) (t.places (t.call_of file) + n) }
after_read t file (Err _) = t

abbrev pub after_write : {E : Type 0} → Told → ℕ → List ℕ → Result ℕ E → Told
after_write t file piece (Ok n) = record t {
  content = set_named t.content (t.name_of file) (t.content (t.name_of file) ++ take n piece);
}
after_write t file piece (Err _) = t

-- at `Ok` all of the file is flushed
abbrev pub after_flush : {E : Type 0} → Told → ℕ → Result Unit E → Told
after_flush t file (Ok _) = record t {
  flushed = set_named t.flushed (t.name_of file) (length (t.content (t.name_of file)));
}
after_flush t file (Err _) = t

-- what is told once an opened file is taken to its end
abbrev pub taken_whole : Told → ℕ → Told
taken_whole t file = record t {
  places = set_at t.places (t.call_of file) (t.places (t.call_of file) + length (rest_of t file));
}

-- what is told but for a made file's bytes
abbrev pub told_beside : Told → ℕ → Told
told_beside t file = record t {
  content = set_named t.content (t.name_of file) [];
  flushed = set_named t.flushed (t.name_of file) 0;
}
