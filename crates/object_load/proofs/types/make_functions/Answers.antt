use Rattle.std.proofs.Common.{List, ℕ, Ok, Err, get_or, refl, subst, arith}
use Rattle.std.proofs.lemmas.Option.{slice_get-get_or}
use Rattle.object_load.specs.Symbols.{IsProgram}
use Rattle.object_load.specs.Types.{config_refusal, HasConfig, IsFunction}
use Rattle.object_load.proofs.Items.{all_more, all_start, each_all, each_first, paired_more, paired_start}
use Rattle.object_load.proofs.types.make_functions.Goals as goal

pub loop-index-init : goal.loop-index-init
loop-index-init c = record {
  each = paired_start (λ index function. IsFunction c.args.object.now c.args.types.now index (Ok function)) _ c.new-functions.ensures;
  programs = all_start (λ function. IsProgram c.args.object.now function.symbol) _ c.new-functions.ensures;
}

pub returns-in-Err-clause-functions : goal.returns-in-Err-clause-functions
returns-in-Err-clause-functions c =
    let file = c.args.object.now in
    let types = c.args.types.now in
    let indexes = c.args.indexes.now in
    let i = c.loop-index.index-index in
    let says = subst (λ (name : List ℕ). HasConfig types name (Err c.in-Err.bad)) c.symbol_name.ensures c.in-Err.ensures in
    each_first (IsFunction file types) config_refusal indexes c.loop-index.functions i (get_or indexes i 0) c.in-Err.bad (slice_get-get_or indexes i 0 (omega arith)) c.loop-index.invariant.each says

pub loop-index-preserved : goal.loop-index-preserved
loop-index-preserved c =
    let file = c.args.object.now in
    let types = c.args.types.now in
    let indexes = c.args.indexes.now in
    let i = c.loop-index.index-index in
    let says = subst (λ (name : List ℕ). HasConfig types name (Ok c.in-Ok.config)) c.symbol_name.ensures c.in-Ok.ensures in
    record {
      each = paired_more (λ index function. IsFunction file types index (Ok function)) indexes c.loop-index.functions _ i (get_or indexes i 0) _ c.in_ok-push.ensures.ok (slice_get-get_or indexes i 0 (omega arith)) c.loop-index.invariant.each (refl, says);
      programs = all_more (λ function. IsProgram file function.symbol) c.loop-index.functions _ _ c.in_ok-push.ensures.ok c.loop-index.invariant.programs (c.requires i 0 (omega arith));
    }

pub returns-clause-functions : goal.returns-clause-functions
returns-clause-functions c =
    each_all (IsFunction c.args.object.now c.args.types.now) config_refusal c.args.indexes.now c.loop-index.functions c.loop-index.index-index (omega arith) c.loop-index.invariant.each
