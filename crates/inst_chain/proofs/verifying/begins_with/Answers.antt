use Rattle.std.proofs.Common.{◌≡◌, ◌++◌, List, ℕ, take, drop, sym, ◌∙◌, ap, append_assoc, take-append-drop}
use Rattle.std.proofs.lemmas.Slice.Eq.{bytes_eq-Decides}
use Rattle.inst_log.specs.Layout.{recovered_lines, blocks}
use Rattle.inst_log.proofs.Lines.{parts, blocks-append}
use Rattle.inst_chain.proofs.verifying.begins_with.Goals as goal

-- a file of which the first lines are these begins with their bytes
begins : (file text : List ℕ) (n : ℕ) → blocks (take n (recovered_lines file)) ≡ text → (rest : List ℕ) × (file ≡ text ++ rest)
begins file text n same =
    let lines = recovered_lines file in
    let end = (parts file).end in
    let rest = blocks (drop n lines) ++ end in (
      rest,
      (parts file).split
          ∙ ap (λ (ls : List (List ℕ)). blocks ls ++ end) (sym (take-append-drop n lines))
          ∙ ap (λ (l : List ℕ). l ++ end) (blocks-append (take n lines) (drop n lines))
          ∙ append_assoc (blocks (take n lines)) (blocks (drop n lines)) end
          ∙ ap (λ (l : List ℕ). l ++ rest) same,
    )

pub returns-clause-begins : goal.returns-clause-begins
returns-clause-begins g c = λ clean yes.
    let file = g.D.Disk.seen c.args.disk.now in
    let same = (bytes_eq-Decides c.as_slice.result.now c.whole_lines.result.now).0 (sym c.eq.ensures ∙ yes) in
    begins file (blocks (recovered_lines c.args.bytes.now)) _ (sym (c.in_ok-lines.ensures.lines clean) ∙ sym c.as_slice.ensures.value ∙ same ∙ c.whole_lines.ensures)
