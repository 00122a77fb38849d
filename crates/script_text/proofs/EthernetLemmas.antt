-- Reading an address octet by octet.
use Rattle.std.proofs.Common.{◌≡◌, ◌≢◌, ℕ, ◌<◌, ◌≤◌, ◌==◌, Bool, true, false, List, [], ◌∷◌, ◌++◌, length, take, drop, get_or, set, Option, Some, None, refl, sym, ◌∙◌, ap, append_assoc, length-append, arith}
use Rattle.std.specs.Prelude.{option_and_then, option_map, if◌then◌else◌, IfSome}
use Rattle.byteorder.specs.Endian.{big_number}
use Rattle.std.proofs.lemmas.List.{take_all, take_more_set, length-set}
use Rattle.std.proofs.lemmas.Grind.{common_steps}
use Rattle.script_text.specs.Addresses.{octet_of, octets_of}

-- the number of six octets
abbrev pub number_of_six : List ℕ → Option ℕ
number_of_six octets = if length octets == 6 then Some (big_number 6 octets) else None

-- the address, of the octets that were read and those of the text that is left
abbrev pub address_from : List ℕ → Option (List ℕ) → Option ℕ
address_from front rest = option_and_then (λ octets. number_of_six (front ++ octets)) rest

-- an octet moves from the text to those that were read
pub address_from-front : (front : List ℕ) (octet : ℕ) (rest : Option (List ℕ)) → address_from front (option_map (λ more. octet ∷ more) rest) ≡ address_from (front ++ octet ∷ []) rest
address_from-front front octet None = refl
address_from-front front octet (Some more) = ap number_of_six (sym (append_assoc front (octet ∷ []) more))

-- what is read is no address where it isn't six octets
pub address_from-single : (front : List ℕ) (rest : Option (List ℕ)) → length front < 5 → IfSome rest (λ octets. length octets ≡ 1) → address_from front rest ≡ None
address_from-single front None few single = refl
address_from-single front (Some octets) few single = grind (arith, common_steps, length-append {A = ℕ})

pub address_from-several : (front : List ℕ) (rest : Option (List ℕ)) → length front ≡ 5 → IfSome rest (λ octets. length octets ≢ 1) → address_from front rest ≡ None
address_from-several front None five several = refl
address_from-several front (Some octets) five several = grind (arith, common_steps, length-append {A = ℕ})

-- the sixth octet
pub address_from-sixth : (octets : List ℕ) (octet : ℕ) → length octets ≡ 6 → address_from (take 5 octets) (Some (octet ∷ [])) ≡ Some (big_number 6 (set octets 5 octet))
address_from-sixth octets octet six =
    let still : length (set octets 5 octet) ≡ 6 = length-set octets 5 octet ∙ six in
    let whole : set octets 5 octet ≡ take 5 octets ++ octet ∷ [] =
    sym (take_all 6 _ (omega arith)) ∙ take_more_set octets 5 octet (omega arith) in
    ap number_of_six (sym whole) ∙ rw still refl

-- a text of octets has one at least
octets_of-some : (text : List ℕ) → IfSome (octets_of text) (λ octets. 0 < length octets)
octets_of-some [] = tt
octets_of-some (a ∷ []) = tt
octets_of-some (high ∷ low ∷ []) = only (octet_of high low)
  where
    only : (octet : Option ℕ) → IfSome (option_map (λ o. o ∷ []) octet) (λ octets. 0 < length octets)
    only None = tt
    only (Some o) = omega arith
octets_of-some (high ∷ low ∷ colon ∷ more) = front (colon == 58) (octet_of high low) (octets_of more)
  where
    front : (colon : Bool) (octet : Option ℕ) (rest : Option (List ℕ))
        → IfSome (if colon then option_and_then (λ o. option_map (λ octets. o ∷ octets) rest) octet else None) (λ octets. 0 < length octets)
    front false octet rest = tt
    front true None rest = tt
    front true (Some o) None = tt
    front true (Some o) (Some octets) = omega arith

-- an octet is written in two digits, and a colon stands between two octets
pub octets_of-other : (text : List ℕ) → length text ≢ 2 → IfSome (octets_of text) (λ octets. length octets ≢ 1)
octets_of-other [] other = tt
octets_of-other (a ∷ []) other = tt
octets_of-other (a ∷ b ∷ []) other = absurd (other refl)
octets_of-other (high ∷ low ∷ colon ∷ more) other = behind (colon == 58) (octet_of high low) (octets_of more) (octets_of-some more)
  where
    behind : (colon : Bool) (octet : Option ℕ) (rest : Option (List ℕ)) → IfSome rest (λ octets. 0 < length octets)
        → IfSome (if colon then option_and_then (λ o. option_map (λ octets. o ∷ octets) rest) octet else None) (λ octets. length octets ≢ 1)
    behind false octet rest some = tt
    behind true None rest some = tt
    behind true (Some o) None some = tt
    behind true (Some o) (Some octets) some = λ one. omega (arith, one, some)

-- an octet in front of a colon
pub octets_of-front : (text : List ℕ) (octet : ℕ) → 3 ≤ length text → get_or text 2 0 ≡ 58 → octet_of (get_or text 0 0) (get_or text 1 0) ≡ Some octet
    → octets_of text ≡ option_map (λ more. octet ∷ more) (octets_of (drop 3 text))
octets_of-front [] octet some colon read = absurd (omega arith)
octets_of-front (a ∷ []) octet some colon read = absurd (omega arith)
octets_of-front (a ∷ b ∷ []) octet some colon read = absurd (omega arith)
octets_of-front (a ∷ b ∷ c ∷ more) octet some colon read =
    let is : c ≡ 58 = colon in
    let front : octet_of a b ≡ Some octet = read in
    rw (is, front) refl
