use Rattle.std.proofs.Common.{◌≡◌, ◌<◌, ◌≤◌, Err, Some, false, length, refl, arith, ◌∙◌, ap, sym}
use Rattle.std.proofs.lemmas.Bool.Decides.{nat_tests}
use Rattle.std.specs.List.{list_all, slice_get}
use Rattle.std.specs.Prelude.{nat_lt}
use Rattle.script_text.specs.Words.{is_printable}
use Rattle.xdp_state.specs.declared.library.Library.{Library}
use Rattle.xdp_tool.proofs.Loading.{all-loaded, all-only, loads-all, loads-more, loads-none, not-loadable, not-loaded, reads-all, reads-more, reads-stopped}
use Rattle.xdp_tool.proofs.FilesRead.{reads-start}
use Rattle.xdp_tool.proofs.Walking.{all-at}
use Rattle.xdp_tool.specs.Objects.{IsObject}
use Rattle.xdp_tool.specs.Outcome.{is_small}
use Rattle.xdp_tool.proofs.objects.load_objects.Goals as goal

pub loop-place-init : goal.loop-place-init
loop-place-init g c = record {
  loads = λ tells. rw c.new-library.ensures.library (loads-none (g.F.Files.told c.args.files.now).content);
  interfaces = ap (λ (l : Library). l.interfaces) c.new-library.ensures.library;
  dumps = ap (λ (l : Library). l.dumps) c.new-library.ensures.library;
  sound = c.new-library.ensures.sound;
  reads = λ tells. reads-start _ tt;
  same_read_faults = refl;
  same_write_faults = refl;
  same_handles = refl;
}

pub load_object-requires-clause-name : goal.load_object-requires-clause-name
load_object-requires-clause-name g c =
    rw c.as_slice-name.ensures (all-at (λ name. list_all is_printable name) c.args.script.objects c.loop-place.place c.at.result.now c.requires.sound.objects c.at.ensures)

pub loop-place-preserved : goal.loop-place-preserved
loop-place-preserved g c =
    let inv = c.loop-place.invariant in
    let names = c.args.script.objects in
    let place = c.loop-place.place in
    let name = c.as_slice-name.result.now in
    let here : slice_get names place ≡ Some name = rw c.as_slice-name.ensures c.at.ensures in
    let loaded = c.in-Ok.ensures.loaded in
    record {
      loads = λ tells.
          let is : IsObject g.F.Files.tells (g.F.Files.told c.args.files.now).content name c.loop-place.library c.load_object.new.library = rw (inv.reads tells).unmade.content at loaded in
          loads-more g.F.Files.tells (g.F.Files.told c.args.files.now).content names place name c.loop-place.library c.load_object.new.library here tells (inv.loads tells) is;
      interfaces = ap (λ (l : Library). l.interfaces) loaded.is.added ∙ inv.interfaces;
      dumps = ap (λ (l : Library). l.dumps) loaded.is.added ∙ inv.dumps;
      sound = c.in-Ok.ensures.sound;
      reads = λ tells. reads-more (g.F.Files.told c.args.files.now) (g.F.Files.told c.loop-place.files) (g.F.Files.told c.load_object.new.files) names place name here (inv.reads tells) (c.in-Ok.ensures.reads tells);
      same_read_faults = c.in-Ok.ensures.same_read_faults ∙ inv.same_read_faults;
      same_write_faults = c.load_object.ensures.same_write_faults ∙ inv.same_write_faults;
      same_handles = c.load_object.ensures.same_handles ∙ inv.same_handles;
    }

pub returns-in-Err-clause-only : goal.returns-in-Err-clause-only
returns-in-Err-clause-only g c = λ tells prepared is.
    let inv = c.loop-place.invariant in
    let names = c.args.script.objects in
    let name = c.as_slice-name.result.now in
    let here : slice_get names c.loop-place.place ≡ Some name = rw c.as_slice-name.ensures c.at.ensures in
    let few : nat_lt 16 (length names) ≡ false = grind (arith, nat_tests, c.if-len-gt-OBJECTS.false, c.len.ensures) in
    not-loaded (g.F.Files.told c.args.files.now).content c.args.script c.loop-place.place name c.in-Err.ending prepared few here c.in-Err.ensures.known
    (λ e. ap (λ content. is_small content name) (sym (inv.reads tells).unmade.content) ∙ c.in-Err.ensures.small tells (ap Err e)) is

pub returns-in-Err-clause-ended : goal.returns-in-Err-clause-ended
returns-in-Err-clause-ended g c = λ tells.
    let inv = c.loop-place.invariant in
    let names = c.args.script.objects in
    let name = c.as_slice-name.result.now in
    let here : slice_get names c.loop-place.place ≡ Some name = rw c.as_slice-name.ensures c.at.ensures in
    let few : nat_lt 16 (length names) ≡ false = grind (arith, nat_tests, c.if-len-gt-OBJECTS.false, c.len.ensures) in
    not-loadable (g.F.Files.told c.args.files.now).content c.args.script c.loop-place.place name c.in-Err.ending few here c.in-Err.ensures.known
    (λ e. ap (λ content. is_small content name) (sym (inv.reads tells).unmade.content) ∙ c.in-Err.ensures.small tells (ap Err e))

pub returns-in-Err-clause-reads : goal.returns-in-Err-clause-reads
returns-in-Err-clause-reads g c = λ tells.
    let inv = c.loop-place.invariant in
    let names = c.args.script.objects in
    let name = c.as_slice-name.result.now in
    let here : slice_get names c.loop-place.place ≡ Some name = rw c.as_slice-name.ensures c.at.ensures in
    reads-stopped (g.F.Files.told c.args.files.now) (g.F.Files.told c.loop-place.files) (g.F.Files.told c.load_object.new.files) names c.loop-place.place name c.in-Err.ending here (inv.reads tells) (c.in-Err.ensures.reads tells)

pub returns-clause-loaded : goal.returns-clause-loaded
returns-clause-loaded g c = λ tells.
    let inv = c.loop-place.invariant in
    let names = c.args.script.objects in
    let past : length names ≤ c.loop-place.place = omega (arith, c.loop-place-test.false, c.len-place-end.ensures) in
    let few : nat_lt 16 (length names) ≡ false = grind (arith, nat_tests, c.if-len-gt-OBJECTS.false, c.len.ensures) in
    all-loaded (g.F.Files.told c.args.files.now).content c.args.script c.loop-place.library few inv.interfaces inv.dumps (loads-all (g.F.Files.told c.args.files.now).content names c.loop-place.place c.loop-place.library.objects past (inv.loads tells))

pub returns-clause-only : goal.returns-clause-only
returns-clause-only g c = λ tells prepared is.
    let inv = c.loop-place.invariant in
    let names = c.args.script.objects in
    let past : length names ≤ c.loop-place.place = omega (arith, c.loop-place-test.false, c.len-place-end.ensures) in
    let few : nat_lt 16 (length names) ≡ false = grind (arith, nat_tests, c.if-len-gt-OBJECTS.false, c.len.ensures) in
    all-only (g.F.Files.told c.args.files.now).content c.args.script c.loop-place.library prepared few inv.interfaces inv.dumps (loads-all (g.F.Files.told c.args.files.now).content names c.loop-place.place c.loop-place.library.objects past (inv.loads tells)) is

pub returns-clause-reads : goal.returns-clause-reads
returns-clause-reads g c = λ tells.
    let names = c.args.script.objects in
    let past : length names ≤ c.loop-place.place = omega (arith, c.loop-place-test.false, c.len-place-end.ensures) in
    reads-all (g.F.Files.told c.args.files.now) (g.F.Files.told c.loop-place.files) names c.loop-place.place _ past (c.loop-place.invariant.reads tells)
