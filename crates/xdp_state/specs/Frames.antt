-- Frames that are kept one behind another in one buffer.
use Rattle.std.specs.Prelude.{ℕ, ◌+◌, ◌*◌, ◌≤◌, List, drop, map, take, Option, Some, None, vec_capacity, vec_len, ⊤}
use Rattle.std.specs.List.{AllByRecursion}
use Rattle.std.specs.Option.{option_map}
use Rattle.xdp_state.specs.declared.dump.Captured.{Captured}
use Rattle.xdp_state.specs.declared.frames.Frames.TheInside.{Inside}
use Rattle.xdp_state.specs.declared.frames.Mark.{Mark}

-- the frame of a mark
abbrev pub marked : List ℕ → Mark → Captured
marked bytes mark = record { length = mark.length; snap = mark.snap; kept = take mark.kept (drop mark.start bytes) }

abbrev pub frames_in : List ℕ → List (Option Mark) → List (Option Captured)
frames_in bytes marks = map (λ mark. option_map (marked bytes) mark) marks

abbrev pub view_of : Inside → List (Option Captured)
view_of frames = frames_in frames.bytes.items frames.marks.items

abbrev pub IsInside : ℕ → Option Mark → Type 0
IsInside size None = ⊤
IsInside size (Some mark) = mark.start + mark.kept ≤ size

-- each mark stands for bytes that are there, and there is room for ten frames of 16,384 bytes
pub record IsRoomy (frames : Inside) : Type 0 where
  pub inside : AllByRecursion (IsInside (vec_len frames.bytes)) frames.marks.items
  pub bytes : vec_len frames.bytes ≤ 16384 * vec_len frames.marks
  pub few : vec_len frames.marks ≤ 10
  pub marks_room : 10 ≤ vec_capacity frames.marks
  pub bytes_room : 163840 ≤ vec_capacity frames.bytes
