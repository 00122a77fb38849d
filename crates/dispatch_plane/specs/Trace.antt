-- What is known of a history: which one it is, and a beginning of its log.
use Rattle.std.specs.Prelude.{List}
use mathlib.Core.List.{IsPrefix}
use Rattle.logbook.specs.Pages.{Book as Plane}
use Rattle.dispatch_plane.specs.declared.entry.Entry.{Entry}

pub record Trace : Type 0 where
  pub plane : Plane
  pub log : List Entry

-- both are beginnings of one log
pub record SameHistory (first second : Trace) : Type 0 where
  pub whole : List Entry
  pub begins : IsPrefix first.log whole
  pub begins_too : IsPrefix second.log whole
