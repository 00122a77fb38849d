-- What a written block is to a reader, whatever follows it.
use Rattle.std.specs.Prelude.{◌≡◌, ℕ, ◌+◌, ◌<◌, ◌≤◌, ◌^◌, List, [], ◌∷◌, ◌++◌, length, slice_get, Some}
use Rattle.pcapng_text.specs.declared.endian.Endian.TheVariants.{Little}
use Rattle.pcapng_text.specs.declared.interface_block.Interface.{Interface}
use Rattle.pcapng_text.specs.declared.progress.Progress.{Progress}
use Rattle.pcapng_text.specs.Reading.{capture_of, prepend, reading}

-- what is known behind a section header of so many bytes
abbrev pub behind_section : ℕ → Progress
behind_section size = record { place = size; endian = Little; interfaces = [] }

-- a capture that begins so holds what is behind
abbrev pub ReadsAsSection : List ℕ → Type 0
ReadsAsSection bytes = (limit : ℕ) (rest : List ℕ) → length bytes ≤ limit → capture_of limit (bytes ++ rest) ≡ reading limit (behind_section (length bytes)) rest

-- a written block stands in a little endian section, and within the limit
pub record StandsIn (limit : ℕ) (before : Progress) (bytes : List ℕ) : Type 0 where
  pub later : 0 < before.place
  pub endian : before.endian ≡ Little
  pub within : before.place + length bytes ≤ limit

-- what is known behind an interface of a snap length whose unit is the nanosecond
abbrev pub behind_interface : Progress → ℕ → ℕ → Progress
behind_interface before snap size = record {
  place = before.place + size;
  endian = Little;
  interfaces = before.interfaces ++ record { snap = snap; resolution = 9 } ∷ [];
}

abbrev pub ReadsAsInterface : ℕ → List ℕ → Type 0
ReadsAsInterface snap bytes =
    (limit : ℕ) (before : Progress) (rest : List ℕ) → StandsIn limit before bytes
    → reading limit before (bytes ++ rest) ≡ reading limit (behind_interface before snap (length bytes)) rest

-- a packet of a written interface, in nanoseconds
pub record IsPacketOf (before : Progress) (number : ℕ) (kept : List ℕ) : Type 0 where
  pub snap : ℕ
  pub interface : slice_get before.interfaces number ≡ Some (record { snap = snap; resolution = 9 })
  pub some : 14 ≤ length kept
  pub bounded : length kept ≤ 15872

abbrev pub behind_packet : Progress → ℕ → Progress
behind_packet before size = record { place = before.place + size; endian = Little; interfaces = before.interfaces }

abbrev pub ReadsAsPacket : ℕ → ℕ → List ℕ → List ℕ → Type 0
ReadsAsPacket number timestamp kept bytes =
    (limit : ℕ) (before : Progress) (rest : List ℕ) → StandsIn limit before bytes → IsPacketOf before number kept
    → reading limit before (bytes ++ rest)
    ≡ prepend (record { timestamp = timestamp; frame = kept; end = before.place + length bytes }) (reading limit (behind_packet before (length bytes)) rest)
