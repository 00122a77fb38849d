-- What is prepared of a script, by the steps of its reading.
use Rattle.std.proofs.Common.{◌≡◌, ℕ, List, Result, Ok, Err, Option, refl, ap, ◌∙◌}
use Rattle.script_text.specs.Readings.{◌>>=◌}
use Rattle.script_text.specs.declared.script.Script.{Script}
use Rattle.xdp_tool.specs.Named.{Gives}
use Rattle.xdp_tool.specs.Outcome.{IsPrepared, script_at, script_in, with_objects, without_clash}
use Rattle.xdp_tool.specs.declared.ending.Ending.{Ending}
use Rattle.xdp_tool.specs.declared.ending.Ending.TheVariants as ending
use Rattle.xdp_tool.specs.declared.prepared.Prepared.{Prepared}

pub gives-err : {A : Type 0} (e : Ending) (wanted : Result A Ending) → wanted ≡ Err e → Gives (Err e) wanted
gives-err (ending.Done refused) wanted is = is
gives-err ending.Usage wanted is = is
gives-err (ending.BadScript line rule) wanted is = is
gives-err ending.Fault wanted is = tt
gives-err ending.OutOfMemory wanted is = tt
gives-err (ending.Limit name) wanted is = is
gives-err (ending.TraceDiffers line) wanted is = is

-- a script that wasn't read
ends : (content : List ℕ → List ℕ) (name : List ℕ) (made : Option (List ℕ)) (e : Ending) (script : Result Prepared Ending) → script_at (content name) ≡ Err e → IsPrepared content (script_in content name made) script → script ≡ Err e
unfolding script_in
ends content name made e script read is = rw read at is

pub read-early : (content : List ℕ → List ℕ) (name : List ℕ) (made : Option (List ℕ)) (e : Ending) (script : Result Prepared Ending) → Gives (Err e) (script_at (content name)) → IsPrepared content (script_in content name made) script → Gives (Err e) script
read-early content name made (ending.Done refused) script read is = ends content name made _ script read is
read-early content name made ending.Usage script read is = ends content name made _ script read is
read-early content name made (ending.BadScript line rule) script read is = ends content name made _ script read is
read-early content name made ending.Fault script read is = tt
read-early content name made ending.OutOfMemory script read is = tt
read-early content name made (ending.Limit limit) script read is = ends content name made _ script read is
read-early content name made (ending.TraceDiffers line) script read is = ends content name made _ script read is

-- one whose line names the file that is made
pub clash-early : (content : List ℕ → List ℕ) (name : List ℕ) (made : Option (List ℕ)) (e : Ending) (s : Script) (script : Result Prepared Ending) → script_at (content name) ≡ Ok s → without_clash made s ≡ Err e → IsPrepared content (script_in content name made) script → Gives (Err e) script
unfolding script_in
clash-early content name made e s script read clash is = gives-err e script (rw (read, clash) at is)

pub script-in-is : (content : List ℕ → List ℕ) (name : List ℕ) (made : Option (List ℕ)) (s : Script) → script_at (content name) ≡ Ok s → without_clash made s ≡ Ok s → script_in content name made ≡ with_objects content s
unfolding script_in
script-in-is content name made s read kept = rw (read, kept) refl

-- the same of the script itself
not-read : (content : List ℕ → List ℕ) (name : List ℕ) (made : Option (List ℕ)) (e : Ending) → script_at (content name) ≡ Err e → script_in content name made ≡ Err e
unfolding script_in
not-read content name made e read = rw read refl

pub read-ended : (content : List ℕ → List ℕ) (name : List ℕ) (made : Option (List ℕ)) (e : Ending) → Gives (Err e) (script_at (content name)) → Gives (Err e) (script_in content name made)
read-ended content name made (ending.Done refused) read = not-read content name made _ read
read-ended content name made ending.Usage read = not-read content name made _ read
read-ended content name made (ending.BadScript line rule) read = not-read content name made _ read
read-ended content name made ending.Fault read = tt
read-ended content name made ending.OutOfMemory read = tt
read-ended content name made (ending.Limit limit) read = not-read content name made _ read
read-ended content name made (ending.TraceDiffers line) read = not-read content name made _ read

pub clash-ended : (content : List ℕ → List ℕ) (name : List ℕ) (made : Option (List ℕ)) (e : Ending) (s : Script) → script_at (content name) ≡ Ok s → without_clash made s ≡ Err e → Gives (Err e) (script_in content name made)
unfolding script_in
clash-ended content name made e s read clash = gives-err e (script_in content name made) (rw (read, clash) refl)
