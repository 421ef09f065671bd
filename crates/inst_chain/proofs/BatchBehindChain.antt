-- A batch with its mark goes behind a chain, or begins one.
use Rattle.std.proofs.Common.{◌≡◌, ◌<◌, ℕ, List, [], ◌∷◌, ◌++◌, length, sym, ◌∙◌, ap, subst, arith, append_assoc, length-append}
use Rattle.inst_base.specs.Newline.{newline}
use Rattle.inst_log.specs.Layout.{recovered_lines, blocks, AreWholeLines, IsShut}
use Rattle.inst_log.proofs.Lines.{AllLines, all_lines, AllLines-append, blocks-append}
use Rattle.inst_log.proofs.Pieces.{lines_back}
use Rattle.inst_chain.specs.Chain.{mark_of, front_of, chained_lines, HasNoMark, IsChain}
use Rattle.inst_chain.specs.Checking.{Digests}
use Rattle.inst_chain.specs.Verifying.{SealedBy}
use Rattle.inst_chain.specs.declared.marker.Marker.{Marker}
use Rattle.inst_chain.proofs.Chains.{Lines}

-- the bytes of a batch with its mark
module _ (batch mark new : List ℕ) (whole : AreWholeLines batch) (line : recovered_lines (mark ++ newline ∷ []) ≡ mark ∷ []) (is : new ≡ (batch ++ mark) ++ newline ∷ []) where
  abbrev lines : Lines
  lines = recovered_lines batch ++ mark ∷ []

  all : AllLines lines
  all = AllLines-append (recovered_lines batch) (mark ∷ []) (all_lines batch) (subst AllLines line (all_lines (mark ++ newline ∷ [])))

  as_blocks : new ≡ blocks lines
  as_blocks = is ∙ append_assoc batch mark (newline ∷ []) ∙ ap (λ (l : List ℕ). l ++ (mark ++ newline ∷ [])) whole ∙ sym (blocks-append (recovered_lines batch) (mark ∷ []))

  pub marked_lines : recovered_lines new ≡ lines
  marked_lines = ap recovered_lines as_blocks ∙ lines_back lines all

  pub marked_whole : AreWholeLines new
  marked_whole = as_blocks ∙ ap blocks (sym marked_lines)

-- what a marker makes of a batch
abbrev pub Marks : Marker → Marker → List ℕ → Lines → Type 0
Marks old new batch marked =
    ((text : List ℕ) → Digests old text → marked ≡ recovered_lines batch ++ mark_of (text ++ batch) ∷ [])
    × ((text : List ℕ) → Digests old text → Digests new (mark_of (text ++ batch) ++ newline ∷ []))

-- ---- the next batch of a chain

module _ (file : List ℕ) (old next : Marker) (s : SealedBy file old) (batch : List ℕ) (marked : Lines) (whole : AreWholeLines batch) (plain : HasNoMark (recovered_lines batch))
    (m : Marks old next batch marked) where
  abbrev batches : List Lines
  batches = s.sealed.chain.batches

  same_text : front_of batches ++ blocks (recovered_lines batch) ≡ front_of batches ++ batch
  same_text = ap (λ (l : List ℕ). front_of batches ++ l) (sym whole)

  longer : (new : List ℕ) → recovered_lines new ≡ recovered_lines file ++ marked → recovered_lines new ≡ chained_lines (recovered_lines batch ∷ batches)
  longer new is =
      is ∙ (λ i. s.sealed.chain.split i ++ m.0 (front_of batches) s.digests i)
      ∙ ap (λ (l : List ℕ). chained_lines batches ++ (recovered_lines batch ++ mark_of l ∷ [])) (sym same_text)

  pub next_chain : (new : List ℕ) → recovered_lines new ≡ recovered_lines file ++ marked → IsChain (recovered_lines new)
  next_chain new is = record {
    batches = recovered_lines batch ∷ batches;
    some = omega arith;
    unmarked = (plain, s.sealed.chain.unmarked);
    split = longer new is;
  }

  pub next_sealed : (new : List ℕ) → recovered_lines new ≡ recovered_lines file ++ marked → IsShut new → SealedBy new next
  next_sealed new is shut = record {
    sealed = record {
      chain = record {
        batches = recovered_lines batch ∷ batches;
        some = omega arith;
        unmarked = (plain, s.sealed.chain.unmarked);
        split = longer new is;
      };
      shut = shut;
    };
    digests = subst (λ (l : List ℕ). Digests next (mark_of l ++ newline ∷ [])) (sym same_text) (m.1 (front_of batches) s.digests);
  }

-- the same lines, with the same last mark
pub again_sealed : (old new : List ℕ) (marker : Marker) → SealedBy old marker → recovered_lines new ≡ recovered_lines old → IsShut new → SealedBy new marker
again_sealed old new marker s same shut = record {
  sealed = record {
    chain = record {
      batches = s.sealed.chain.batches;
      some = s.sealed.chain.some;
      unmarked = s.sealed.chain.unmarked;
      split = same ∙ s.sealed.chain.split;
    };
    shut = shut;
  };
  digests = s.digests;
}

-- ---- the first batch

module _ (first : Marker) (none : Marker) (fresh : Digests none []) (batch : List ℕ) (marked : Lines) (whole : AreWholeLines batch) (plain : HasNoMark (recovered_lines batch))
    (m : Marks none first batch marked) where
  one_batch : (file : List ℕ) → recovered_lines file ≡ marked → recovered_lines file ≡ chained_lines (recovered_lines batch ∷ [])
  one_batch file same = same ∙ m.0 [] fresh ∙ ap (λ (l : List ℕ). recovered_lines batch ++ mark_of l ∷ []) whole

  pub first_chain : (file : List ℕ) → recovered_lines file ≡ marked → IsChain (recovered_lines file)
  first_chain file same = record {
    batches = recovered_lines batch ∷ [];
    some = omega arith;
    unmarked = (plain, tt);
    split = one_batch file same;
  }

  pub first_sealed : (file : List ℕ) → recovered_lines file ≡ marked → IsShut file → SealedBy file first
  first_sealed file same shut = record {
    sealed = record {
      chain = record {
        batches = recovered_lines batch ∷ [];
        some = omega arith;
        unmarked = (plain, tt);
        split = one_batch file same;
      };
      shut = shut;
    };
    digests = subst (λ (l : List ℕ). Digests first (mark_of l ++ newline ∷ [])) whole (m.1 [] fresh);
  }

chain_some : (batches : List Lines) → 0 < length batches → chained_lines batches ≡ [] → ⊥
chain_some [] some none = omega (arith, some)
chain_some (batch ∷ older) some none =
    let mark = mark_of (front_of older ++ blocks batch) in
    omega (arith, ap length none, length-append (chained_lines older) (batch ++ mark ∷ []), length-append batch (mark ∷ []))

pub not_empty : (file : List ℕ) → IsChain (recovered_lines file) → recovered_lines file ≡ [] → ⊥
not_empty file chain none = chain_some chain.batches chain.some (sym chain.split ∙ none)
