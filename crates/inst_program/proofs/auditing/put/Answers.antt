use Rattle.std.proofs.Common.{◌≡◌, ◌∙◌, ℕ, ◌<◌, List, [], ◌∷◌, arith, length, rules, sym, zero-add}
use Rattle.std.proofs.lemmas.List.{ext_get_or}
use Rattle.sqlite_disk.specs.Disk.{Holds, Torn}
use Rattle.inst_program.proofs.auditing.put.Goals as goal

-- a file that was empty has what was written
has_the_bytes : (bytes file : List ℕ) → Torn 0 (length bytes) [] file → (0 < length bytes → Holds file 0 bytes) → file ≡ bytes
has_the_bytes [] file torn holds =
    ext_get_or 0 file [] (omega (arith, torn.no_longer)) (λ i within. absurd (omega (arith, torn.no_longer)))
has_the_bytes (byte ∷ rest) file torn holds =
    let held = holds (omega arith) in
    ext_get_or 0 file (byte ∷ rest) (omega (arith, held.within, torn.no_longer))
    (λ i within. let below : i < length (byte ∷ rest) = omega (arith, torn.no_longer) in rw zero-add at (held.each i below))

pub returns-clause-same : goal.returns-clause-same
returns-clause-same c =
    let written : c.write_at.new.self.bytes.items ≡ c.args.bytes.now =
    has_the_bytes _ _ (rw c.requires.empty at c.write_at.ensures.others) c.in_ok-write_at.ensures.written in
    c.sync.ensures.seen ∙ written

pub returns-clause-opened : goal.returns-clause-opened
returns-clause-opened c = record {
  usable = search rules;
  known = λ _ file may. c.in_ok-sync.ensures.durable file may ∙ sym c.sync.ensures.seen;
}
