use Rattle.std.proofs.Common.{◌≡◌, Ok, take, IsTrue}
use Rattle.xdp_state.specs.Library.{IsSound}
use Rattle.xdp_tool.proofs.Loading.{IsReadUpTo, Loads}
use Rattle.xdp_tool.proofs.objects.load_objects.Given as goal

-- the objects so far are in the library, and their files were read
abbrev pub invariant-loop-place : goal.invariant-loop-place
invariant-loop-place g l = record {
  loads : IsTrue g.F.Files.tells → Loads (g.F.Files.told l.fn.files).content (take l.place l.fn.script.objects) l.library.objects;
  interfaces : l.library.interfaces ≡ l.fn.script.interfaces;
  dumps : l.library.dumps ≡ l.fn.script.dumps;
  sound : IsSound l.library;
  reads : IsTrue g.F.Files.tells → IsReadUpTo (g.F.Files.told l.fn.files) (g.F.Files.told l.files) (take l.place l.fn.script.objects);
  same_read_faults : g.F.Files.read_faults l.files ≡ g.F.Files.read_faults l.fn.files;
  same_write_faults : g.F.Files.write_faults l.files ≡ g.F.Files.write_faults l.fn.files;
  same_handles : g.F.Files.handles l.files ≡ g.F.Files.handles l.fn.files;
}
