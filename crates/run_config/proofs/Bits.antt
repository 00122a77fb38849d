-- Setting and clearing one of five bits.
use Rattle.std.proofs.Common.{◌≡◌, ℕ, ◌+◌, ◌-◌, ◌*◌, ◌%◌, ◌^◌, ◌==◌, ◌&&◌, Bool, true, false, cond, refl, bit_or, bit_and}
use Rattle.std.proofs.lemmas.Bool.{and_parts, eqb-true}
use Rattle.xio.specs.declared.action.Action.{Action}
use Rattle.xio.specs.declared.action.Action.TheVariants.{Aborted, Drop, Pass, Tx, Redirect}
use Rattle.xio.specs.Action.{number}
use Rattle.run_config.specs.Settings.{mask_from}

abbrev pub five : Bool → Bool → Bool → Bool → Bool → ℕ
five a b c d e = 0 + cond a 1 0 + cond b 2 0 + cond c 4 0 + cond d 8 0 + cond e 16 0

abbrev for_all : (Bool → Bool) → Bool
for_all test = test true && test false

each : (test : Bool → Bool) → for_all test ≡ true → (b : Bool) → test b ≡ true
each test h true = (and_parts _ _ h).0
each test h false = (and_parts _ _ h).1

-- a test that passes for all values of five bits passes for each
each_five : (test : Bool → Bool → Bool → Bool → Bool → Bool) → for_all (λ a. for_all (λ b. for_all (λ c. for_all (λ d. for_all (λ e. test a b c d e))))) ≡ true → (a b c d e : Bool) → test a b c d e ≡ true
each_five test h a b c d e =
    each (λ e. test a b c d e) (each (λ d. for_all (λ e. test a b c d e)) (each (λ c. for_all (λ d. for_all (λ e. test a b c d e))) (each (λ b. for_all (λ c. for_all (λ d. for_all (λ e. test a b c d e)))) (each (λ a. for_all (λ b. for_all (λ c. for_all (λ d. for_all (λ e. test a b c d e))))) h a) b) c) d) e

pub set_0 : (a b c d e : Bool) → bit_or (five a b c d e) 1 ≡ five true b c d e
set_0 a b c d e = eqb-true _ _ (each_five (λ a b c d e. bit_or (five a b c d e) 1 == five true b c d e) refl a b c d e)

pub set_1 : (a b c d e : Bool) → bit_or (five a b c d e) 2 ≡ five a true c d e
set_1 a b c d e = eqb-true _ _ (each_five (λ a b c d e. bit_or (five a b c d e) 2 == five a true c d e) refl a b c d e)

pub set_2 : (a b c d e : Bool) → bit_or (five a b c d e) 4 ≡ five a b true d e
set_2 a b c d e = eqb-true _ _ (each_five (λ a b c d e. bit_or (five a b c d e) 4 == five a b true d e) refl a b c d e)

pub set_3 : (a b c d e : Bool) → bit_or (five a b c d e) 8 ≡ five a b c true e
set_3 a b c d e = eqb-true _ _ (each_five (λ a b c d e. bit_or (five a b c d e) 8 == five a b c true e) refl a b c d e)

pub set_4 : (a b c d e : Bool) → bit_or (five a b c d e) 16 ≡ five a b c d true
set_4 a b c d e = eqb-true _ _ (each_five (λ a b c d e. bit_or (five a b c d e) 16 == five a b c d true) refl a b c d e)

pub clear_0 : (a b c d e : Bool) → bit_and (five a b c d e) 254 ≡ five false b c d e
clear_0 a b c d e = eqb-true _ _ (each_five (λ a b c d e. bit_and (five a b c d e) 254 == five false b c d e) refl a b c d e)

pub clear_1 : (a b c d e : Bool) → bit_and (five a b c d e) 253 ≡ five a false c d e
clear_1 a b c d e = eqb-true _ _ (each_five (λ a b c d e. bit_and (five a b c d e) 253 == five a false c d e) refl a b c d e)

pub clear_2 : (a b c d e : Bool) → bit_and (five a b c d e) 251 ≡ five a b false d e
clear_2 a b c d e = eqb-true _ _ (each_five (λ a b c d e. bit_and (five a b c d e) 251 == five a b false d e) refl a b c d e)

pub clear_3 : (a b c d e : Bool) → bit_and (five a b c d e) 247 ≡ five a b c false e
clear_3 a b c d e = eqb-true _ _ (each_five (λ a b c d e. bit_and (five a b c d e) 247 == five a b c false e) refl a b c d e)

pub clear_4 : (a b c d e : Bool) → bit_and (five a b c d e) 239 ≡ five a b c d false
clear_4 a b c d e = eqb-true _ _ (each_five (λ a b c d e. bit_and (five a b c d e) 239 == five a b c d false) refl a b c d e)

-- the mask with an action's bit set
pub mask_from-set : (action : Action) (bit mask : ℕ) (has : Action → Bool) → bit ≡ number action → mask ≡ mask_from has → bit_or mask (1 * 2 ^ bit % 256) ≡ mask_from (λ other. cond (number other == number action) true (has other))
mask_from-set Aborted bit mask has e m = rw (e, m) (set_0 (has Aborted) (has Drop) (has Pass) (has Tx) (has Redirect))
mask_from-set Drop bit mask has e m = rw (e, m) (set_1 (has Aborted) (has Drop) (has Pass) (has Tx) (has Redirect))
mask_from-set Pass bit mask has e m = rw (e, m) (set_2 (has Aborted) (has Drop) (has Pass) (has Tx) (has Redirect))
mask_from-set Tx bit mask has e m = rw (e, m) (set_3 (has Aborted) (has Drop) (has Pass) (has Tx) (has Redirect))
mask_from-set Redirect bit mask has e m = rw (e, m) (set_4 (has Aborted) (has Drop) (has Pass) (has Tx) (has Redirect))

-- and with it cleared
pub mask_from-clear : (action : Action) (bit mask : ℕ) (has : Action → Bool) → bit ≡ number action → mask ≡ mask_from has → bit_and mask (255 - 1 * 2 ^ bit % 256) ≡ mask_from (λ other. cond (number other == number action) false (has other))
mask_from-clear Aborted bit mask has e m = rw (e, m) (clear_0 (has Aborted) (has Drop) (has Pass) (has Tx) (has Redirect))
mask_from-clear Drop bit mask has e m = rw (e, m) (clear_1 (has Aborted) (has Drop) (has Pass) (has Tx) (has Redirect))
mask_from-clear Pass bit mask has e m = rw (e, m) (clear_2 (has Aborted) (has Drop) (has Pass) (has Tx) (has Redirect))
mask_from-clear Tx bit mask has e m = rw (e, m) (clear_3 (has Aborted) (has Drop) (has Pass) (has Tx) (has Redirect))
mask_from-clear Redirect bit mask has e m = rw (e, m) (clear_4 (has Aborted) (has Drop) (has Pass) (has Tx) (has Redirect))
