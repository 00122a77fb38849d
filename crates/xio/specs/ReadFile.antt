-- What a named file that is opened, read to its end and closed again leaves.
use Rattle.std.specs.Prelude.{◌≡◌, ◌≢◌, ℕ, ◌<◌, ◌≤◌, ◌⊎◌, List, [], ◌∷◌, ◌++◌, length, take, Result, Ok, Err}
use Rattle.xio.specs.Handles.{Handle, Closed, set_at}
use Rattle.xio.specs.Prefixes.{AppendsPrefix}
use Rattle.xio.specs.Told.{Told}
use Rattle.xio.specs.declared.files.FileFault.{FileFault}
use Rattle.xio.specs.declared.files.FileFault.TheVariants as fault
use Rattle.xio.specs.declared.read_end.ReadEnd.{ReadEnd}
use Rattle.xio.specs.declared.read_end.ReadEnd.TheVariants.{ReadFault, TooLarge, OutOfMemory}

-- why a file that was not opened was not read
abbrev pub end_of : FileFault → ReadEnd
end_of fault.Failed = ReadFault
end_of fault.OutOfMemory = OutOfMemory

-- `Ok` appended the content, which is within the limit; any other end appended a prefix of it.
-- `TooLarge` names the limit, and the content is longer.
abbrev pub ReadsFile : ℕ → List ℕ → List ℕ → List ℕ → Result Unit ReadEnd → Type 0
ReadsFile limit content into into' (Ok _) = (into' ≡ into ++ content) × (length content ≤ limit)
ReadsFile limit content into into' (Err ReadFault) = AppendsPrefix into into' content
ReadsFile limit content into into' (Err (TooLarge n)) = (n ≡ limit) × (limit < length content) × AppendsPrefix into into' content
ReadsFile limit content into into' (Err OutOfMemory) = AppendsPrefix into into' content

-- One call of `open_file` more, whose file was taken up to this place. No file was made, no content and nothing flushed changed, and
-- every number that was open has its name and its call as before.
pub record AsksFor (handles : ℕ → Handle) (old new : Told) (name : List ℕ) (place : ℕ) : Type 0 where
  pub content : new.content ≡ old.content
  pub flushed : new.flushed ≡ old.flushed
  pub asked : new.asked ≡ old.asked ++ name ∷ []
  pub places : new.places ≡ set_at old.places (length old.asked) place
  pub made : new.made ≡ old.made
  pub names : (n : ℕ) → handles n ≢ Closed → new.name_of n ≡ old.name_of n
  pub calls : (n : ℕ) → handles n ≢ Closed → new.call_of n ≡ old.call_of n

-- at `Ok` the file was taken up to its end; want of memory may come before the call and after it
abbrev pub AsksFile : (ℕ → Handle) → Told → Told → List ℕ → Result Unit ReadEnd → Type 0
AsksFile handles old new name (Ok _) = AsksFor handles old new name (length (old.content name))
AsksFile handles old new name (Err ReadFault) = (place : ℕ) × AsksFor handles old new name place
AsksFile handles old new name (Err (TooLarge _)) = (place : ℕ) × AsksFor handles old new name place
AsksFile handles old new name (Err OutOfMemory) = (new ≡ old) ⊎ ((place : ℕ) × AsksFor handles old new name place)

-- at a read fault what was appended is what the file has up to the place of this call
abbrev pub UpToFault : Told → Told → List ℕ → List ℕ → List ℕ → Result Unit ReadEnd → Type 0
UpToFault old new name into into' (Err ReadFault) = into' ≡ into ++ take (new.places (length old.asked)) (old.content name)
UpToFault old new name into into' _ = Unit {0}
