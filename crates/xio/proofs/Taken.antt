-- How far a source was read: what was taken stands behind what was there, and the room that is left goes with it.
use Rattle.std.proofs.Common.{◌≡◌, IsTrue, Bool, ℕ, ◌+◌, ◌-◌, ◌<◌, ◌≤◌, List, ◌++◌, length, take, drop, sym, ◌∙◌, ap, append_assoc, arith}
use Rattle.std.proofs.lemmas.Grind.{common_steps}
use Rattle.std.proofs.Math.Seq.{take-add}
use Rattle.std.proofs.lemmas.List.{take-take}
use Rattle.xio.specs.Prefixes.{AppendsPrefix}
use Rattle.xio.specs.Streams.{Takes}
use Rattle.xio.proofs.PrefixLemmas.{prefix_front, prefix_whole}

pub record HasTaken (tells : Bool) (limit room : ℕ) (rest rest' into into' : List ℕ) : Type 0 where
  pub taken : List ℕ
  pub counted : length taken + room ≡ limit
  pub left : IsTrue tells → rest ≡ taken ++ rest'
  pub put : into' ≡ into ++ taken

-- what was taken is a prefix of the rest
pub prefix_taken : {tells : Bool} {limit room : ℕ} {rest rest' into into' : List ℕ} → HasTaken tells limit room rest rest' into into' → IsTrue tells → AppendsPrefix into into' rest
prefix_taken {into} p told = rw (p.put, p.left told) (prefix_front into p.taken _)

-- one more read that passes the room shows that the rest passes the limit
pub limit-rest : {tells : Bool} {limit room n : ℕ} {rest rest' into into' : List ℕ} (buffer rest'' : List ℕ) → HasTaken tells limit room rest rest' into into'
    → room < n → n ≤ length buffer → IsTrue tells → rest' ≡ take n buffer ++ rest'' → limit < length rest
limit-rest buffer rest'' p passed within told more = rw (p.left told, more) (grind (arith, common_steps, p.counted))

-- one more read
pub takes_more : {tells : Bool} {limit room n : ℕ} {rest rest' into into' : List ℕ} (size : ℕ) (buffer rest'' : List ℕ) → HasTaken tells limit room rest rest' into into'
    → n ≤ length buffer → length buffer ≡ size → IsTrue tells → rest' ≡ take n buffer ++ rest'' → Takes (limit + size) rest rest'' into into'
takes_more {n} {into} size buffer rest'' p within sized told more = record {
  taken = p.taken ++ take n buffer;
  within = grind (arith, common_steps, p.counted);
  left = p.left told ∙ ap (λ xs. p.taken ++ xs) more ∙ sym (append_assoc p.taken (take n buffer) rest'');
  put = rw p.put (prefix_front into p.taken (take n buffer));
}

-- no more than was taken
pub takes_same : {tells : Bool} {limit room : ℕ} {rest rest' into into' : List ℕ} (size : ℕ) (rest'' : List ℕ) → HasTaken tells limit room rest rest' into into'
    → IsTrue tells → rest'' ≡ rest' → Takes (limit + size) rest rest'' into into'
takes_same {into} size rest'' p told same = record {
  taken = p.taken;
  within = omega (arith, p.counted);
  left = p.left told ∙ ap (λ xs. p.taken ++ xs) (sym same);
  put = rw p.put (prefix_whole into p.taken);
}

-- the first k bytes of a piece go on where the first w bytes ended
pub take-piece : (w k : ℕ) (bytes : List ℕ) → w + k ≤ length bytes → take w bytes ++ take k (take (length bytes - w) (drop w bytes)) ≡ take (w + k) bytes
take-piece w k bytes h = rw (take-take k (length bytes - w) (drop w bytes) (omega arith)) (sym (take-add w k bytes))
