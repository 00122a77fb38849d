-- What a dump keeps of a packet as it enters a member and as it leaves (xdpdump).
use Rattle.std.specs.Prelude.{ℕ, ◌&&◌, ◌||◌, ◌==◌, Bool, List, [], length, take, slice_get, slice_index_or, Option, Some, None, if◌then◌else◌}
use Rattle.std.specs.Option.{option_map_or}
use Rattle.chain_order.specs.declared.member.Kind.{Kind}
use Rattle.chain_order.specs.declared.member.Kind.TheVariants as kind
use Rattle.xdp_state.specs.Library.{filter_name, is_among, program_at}
use Rattle.xdp_state.specs.declared.dump.Captured.{Captured}
use Rattle.xdp_state.specs.declared.dump.DumpSetting.{DumpSetting}
use Rattle.xdp_state.specs.declared.dump.Snaps.{Snaps}
use Rattle.xdp_state.specs.declared.library.Library.{Library}

-- the setting of the dump on an interface, where one is on
abbrev pub dump_on : List (Option ℕ) → ℕ → Option ℕ
dump_on dumps interface = slice_index_or dumps interface None

-- a member's name; a program that the library lacks has the empty one
abbrev pub name_of : Library → Kind → List ℕ
name_of library (kind.Program number) = option_map_or (λ program. program.name) (program_at library number) []
name_of library (kind.Filter policy features) = filter_name

-- without names each member is asked for
abbrev pub asks_for : DumpSetting → List ℕ → Bool
asks_for dump name = (length dump.names == 0) || is_among name dump.names

-- how many bytes are kept at both sides, where they are asked for
abbrev pub no_snaps : Snaps
no_snaps = record { entry = None; exit = None }

abbrev pub snaps_at : Library → Kind → Option DumpSetting → Snaps
snaps_at library member None = no_snaps
snaps_at library member (Some dump) = record {
  entry = if dump.entry && asks_for dump (name_of library member) then Some dump.snap else None;
  exit = if dump.exit && asks_for dump (name_of library member) then Some dump.snap else None;
}

-- of a member, where the dump on its interface is of this setting; one that the library lacks asks for nothing
abbrev pub snaps_as : Library → Kind → Option ℕ → Snaps
snaps_as library member None = no_snaps
snaps_as library member (Some setting) = snaps_at library member (slice_get library.dumps setting)

unfoldable pub snaps_of : Library → Option ℕ → Kind → Snaps
snaps_of library dump member = snaps_as library member dump

-- a frame's length and as many of its first bytes as are kept
abbrev pub captured : ℕ → List ℕ → Captured
captured snap frame = record { length = length frame; snap = snap; kept = take snap frame }

abbrev pub kept_of : Option ℕ → List ℕ → List ℕ
kept_of None frame = []
kept_of (Some snap) frame = take snap frame

abbrev pub captured_at : Option ℕ → List ℕ → Option Captured
captured_at None frame = None
captured_at (Some snap) frame = Some (captured snap frame)
