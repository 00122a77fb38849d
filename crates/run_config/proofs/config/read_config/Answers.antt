use Rattle.std.proofs.Common.{◌≡◌, [], ◌∷◌, ◌++◌, take, subst, arith}
use Rattle.run_config.specs.Settings.{Sets}
use Rattle.run_config.specs.SettingName.{setting_name}
use Rattle.run_config.specs.Values.{Paired, none}
use Rattle.run_config.specs.Variables.{parts_of}
use Rattle.run_config.proofs.Pairing.{paired-push}
use Rattle.run_config.proofs.Parts.{take-parts}
use Rattle.run_config.proofs.config.read_config.Goals as goal

pub loop-place-init : goal.loop-place-init
loop-place-init c = record { settings = []; each = none; value = c.default_config-config.ensures.no_settings }

pub loop-place-preserved : goal.loop-place-preserved
loop-place-preserved c =
    let so_far = c.loop-place.invariant in
    record {
      settings = so_far.settings ++ record { name = setting_name c.in-Some.setting; value = c.in-Some.value } ∷ [];
      each = rw c.part_at.ensures.so_far (paired-push so_far.each c.in-Some.ensures.sets);
      value = c.with-config.ensures so_far.settings so_far.value;
    }

pub returns : goal.returns
returns c =
    let so_far = c.loop-place.invariant in
    let types = c.args.types.now in
    let structure = c.args.structure.now in
    let all : c.loop-place.place ≡ structure.count = omega arith in
    let front : take c.loop-place.place (parts_of types structure) ≡ parts_of types structure = rw all (take-parts types structure) in
    record {
      settings = so_far.settings;
      each = subst (λ members. Paired (Sets types) members so_far.settings) front so_far.each;
      value = so_far.value;
    }
