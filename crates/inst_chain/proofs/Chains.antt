-- Chains that share a mark.
use Rattle.std.proofs.Common.{◌≡◌, ◌⊎◌, inl, inr, ℕ, true, List, [], ◌∷◌, ◌++◌, refl, sym, ◌∙◌, ap, subst, append_assoc}
use Rattle.std.proofs.lemmas.List.{append-nil, append_cancel_right}
use Rattle.inst_base.specs.Newline.{newline}
use Rattle.inst_log.specs.Layout.{recovered_lines, blocks}
use Rattle.inst_log.proofs.Lines.{AllLines, recovered_blocks, all_lines, blocks-append}
use Rattle.sha2.specs.Sha256.{sha256}
use Rattle.inst_chain.specs.Chain.{is_mark, mark_of, front_of, chained_lines, HasNoMark, HaveNoMark, IsSealed, IsPart, Collision}
use Rattle.inst_chain.proofs.Digests.{same_or_not, mark_is_line, mark_is_mark, mark_tells}

-- lines, of which each is a list
abbrev pub Lines : Type 0
Lines = List (List ℕ)

-- ---- lists

pub heads : {X : Type 0} {x y : X} {xs ys : List X} → x ∷ xs ≡ y ∷ ys → x ≡ y
heads same = cc same

pub tails : {X : Type 0} {x y : X} {xs ys : List X} → x ∷ xs ≡ y ∷ ys → xs ≡ ys
tails same = cc same

-- what stands within two lists, one behind the other
pub record Within (p q old : Lines) (m : List ℕ) (late : Lines) : Type 0 where
  pub more : Lines
  pub here : p ≡ old ++ m ∷ more
  pub then : late ≡ more ++ q

pub record Behind (p q old : Lines) (m : List ℕ) (late : Lines) : Type 0 where
  pub more : Lines
  pub here : q ≡ more ++ m ∷ late
  pub then : old ≡ p ++ more

pub where_it_is : (p q old : Lines) (m : List ℕ) (late : Lines) → p ++ q ≡ old ++ m ∷ late → Within p q old m late ⊎ Behind p q old m late
where_it_is [] q old m late same = inr (record { more = old; here = same; then = refl })
where_it_is (x ∷ p) q [] m late same = inl (record { more = p; here = (let first = heads same in λ i. first i ∷ p); then = sym (tails same) })
where_it_is (x ∷ p) q (y ∷ old) m late same = elim (where_it_is p q old m late (tails same)) [
  | inl found ↦ inl (record { more = found.more; here = (let first = heads same in λ i. first i ∷ found.here i); then = found.then })
  | inr found ↦ inr (record { more = found.more; here = found.here; then = ap (λ (z : List ℕ). z ∷ old) (sym (heads same)) ∙ ap (λ (l : Lines). x ∷ l) found.then })
]

-- ---- batches

-- each batch has lines alone
abbrev pub AreLines : List Lines → Type 0
AreLines [] = Unit {0}
AreLines (batch ∷ batches) = AllLines batch × AreLines batches

all_parts : (a b : Lines) → AllLines (a ++ b) → AllLines a × AllLines b
all_parts [] b all = (tt, all)
all_parts (x ∷ a) b all = let rest = all_parts a b all.1 in ((all.0, rest.0), rest.1)

-- the lines of a chain are lines
pub are_lines : (batches : List Lines) → AllLines (chained_lines batches) → AreLines batches
are_lines [] all = tt
are_lines (batch ∷ older) all =
    let mark = mark_of (front_of older ++ blocks batch) in
    let outer = all_parts (chained_lines older) (batch ++ mark ∷ []) all in
    ((all_parts batch (mark ∷ []) outer.1).0, are_lines older outer.0)

-- the last mark, as a line
abbrev pub front_line : List Lines → Lines
front_line [] = []
front_line (batch ∷ older) = mark_of (front_of older ++ blocks batch) ∷ []

front_is : (batches : List Lines) → front_of batches ≡ blocks (front_line batches)
front_is [] = refl
front_is (batch ∷ older) = refl

front_lines : (batches : List Lines) → AllLines (front_line batches)
front_lines [] = tt
front_lines (batch ∷ older) = (mark_is_line (front_of older ++ blocks batch), tt)

-- the lines of what a digest covers
pub covered : (older : List Lines) (batch : Lines) → AllLines batch → recovered_lines (front_of older ++ blocks batch) ≡ front_line older ++ batch
covered older batch all =
    ap (λ (l : List ℕ). recovered_lines (l ++ blocks batch)) (front_is older)
    ∙ recovered_blocks (front_line older) (blocks batch) (front_lines older)
    ∙ ap (λ (ls : Lines). front_line older ++ ls) (ap recovered_lines (sym (append-nil (blocks batch))) ∙ recovered_blocks batch [] all ∙ append-nil batch)

-- a batch doesn't begin with a mark
no_mark_first : (text : List ℕ) (lines batch : Lines) → HasNoMark batch → batch ≡ mark_of text ∷ lines → ⊥
no_mark_first text lines [] none same = cc same
no_mark_first text lines (line ∷ batch) none same = cc (none.0, mark_is_mark text, ap is_mark (heads same))

-- what is covered tells the mark before it, and the batch
same_parts : (xs ys : List Lines) (x y : Lines) → HasNoMark x → HasNoMark y → front_line xs ++ x ≡ front_line ys ++ y → (front_of xs ≡ front_of ys) × (x ≡ y)
same_parts [] [] x y none clear same = (refl, same)
same_parts [] (y' ∷ ys) x y none clear same = absurd (no_mark_first (front_of ys ++ blocks y') y x none same)
same_parts (x' ∷ xs) [] x y none clear same = absurd (no_mark_first (front_of xs ++ blocks x') x y clear (sym same))
same_parts (x' ∷ xs) (y' ∷ ys) x y none clear same = (ap (λ (l : List ℕ). l ++ newline ∷ []) (heads same), tails same)

-- what a chain's file ends with
ends_by : (batches : List Lines) → (before : List ℕ) × (blocks (chained_lines batches) ≡ before ++ front_of batches)
ends_by [] = ([], refl)
ends_by (batch ∷ older) =
    let mark = mark_of (front_of older ++ blocks batch) in (
      blocks (chained_lines older) ++ blocks batch,
      blocks-append (chained_lines older) (batch ++ mark ∷ [])
          ∙ ap (λ (l : List ℕ). blocks (chained_lines older) ++ l) (blocks-append batch (mark ∷ []))
          ∙ sym (append_assoc (blocks (chained_lines older)) (blocks batch) (blocks (mark ∷ []))),
    )

-- what the newest digest covers stands in one piece
covered_part : (older : List Lines) (batch : Lines) (late : Lines) (rest : List ℕ)
    → IsPart (front_of older ++ blocks batch) (blocks (chained_lines (batch ∷ older) ++ late) ++ rest)
covered_part older batch late rest =
    let mark = mark_of (front_of older ++ blocks batch) in
    let ends = ends_by older in
    let text = front_of older ++ blocks batch in
    let last = blocks (mark ∷ []) in
    let all : blocks (chained_lines (batch ∷ older)) ≡ ends.0 ++ (text ++ last) =
    blocks-append (chained_lines older) (batch ++ mark ∷ [])
    ∙ ap (λ (l : List ℕ). l ++ blocks (batch ++ mark ∷ [])) ends.1
    ∙ ap (λ (l : List ℕ). (ends.0 ++ front_of older) ++ l) (blocks-append batch (mark ∷ []))
    ∙ append_assoc ends.0 (front_of older) (blocks batch ++ last)
    ∙ ap (λ (l : List ℕ). ends.0 ++ l) (sym (append_assoc (front_of older) (blocks batch) last)) in
    record {
      before = ends.0;
      behind = last ++ (blocks late ++ rest);
      split =
          ap (λ (l : List ℕ). l ++ rest) (blocks-append (chained_lines (batch ∷ older)) late)
          ∙ append_assoc (blocks (chained_lines (batch ∷ older))) (blocks late) rest
          ∙ ap (λ (l : List ℕ). l ++ (blocks late ++ rest)) all
          ∙ append_assoc ends.0 (text ++ last) (blocks late ++ rest)
          ∙ ap (λ (l : List ℕ). ends.0 ++ l) (append_assoc text last (blocks late ++ rest));
    }

-- ---- two chains

-- one last mark: the same batches, or two texts with one digest
pub same_front : (xs ys : List Lines) (late later : Lines) (rest other : List ℕ) → AreLines xs → AreLines ys → HaveNoMark xs → HaveNoMark ys → front_of xs ≡ front_of ys
    → (xs ≡ ys) ⊎ Collision (blocks (chained_lines xs ++ late) ++ rest) (blocks (chained_lines ys ++ later) ++ other)
same_front [] [] late later rest other in_x in_y none clear same = inl refl
same_front [] (y ∷ ys) late later rest other in_x in_y none clear same = absurd (cc same)
same_front (x ∷ xs) [] late later rest other in_x in_y none clear same = absurd (cc same)
same_front (x ∷ xs) (y ∷ ys) late later rest other in_x in_y none clear same =
    let one = front_of xs ++ blocks x in
    let two = front_of ys ++ blocks y in
    let digest : sha256 one ≡ sha256 two = mark_tells one two (append_cancel_right (mark_of one) (mark_of two) (newline ∷ []) same) in
    elim (same_or_not one two) [
      | inr differ ↦
          inr (record {
            one = one;
            other = two;
            in_a = covered_part xs x late rest;
            in_b = covered_part ys y later other;
            differ = differ;
            same = digest;
          })
      | inl equal ↦
          let parts = same_parts xs ys x y none.0 clear.0 (sym (covered xs x in_x.0) ∙ ap recovered_lines equal ∙ covered ys y in_y.0) in
          let mark = mark_of one ∷ [] in
          let mark' = mark_of two ∷ [] in
          let next = same_front xs ys ((x ++ mark) ++ late) ((y ++ mark') ++ later) rest other in_x.1 in_y.1 none.1 clear.1 parts.0 in
          let left : (chained_lines xs ++ (x ++ mark)) ++ late ≡ chained_lines xs ++ ((x ++ mark) ++ late) = append_assoc (chained_lines xs) (x ++ mark) late in
          let right : (chained_lines ys ++ (y ++ mark')) ++ later ≡ chained_lines ys ++ ((y ++ mark') ++ later) = append_assoc (chained_lines ys) (y ++ mark') later in
          elim next [
            | inl rest_same ↦ inl (λ i. parts.1 i ∷ rest_same i)
            | inr found ↦
                inr (subst (λ (l : Lines). Collision (blocks l ++ rest) (blocks ((chained_lines ys ++ (y ++ mark')) ++ later) ++ other)) (sym left)
                (subst (λ (l : Lines). Collision (blocks (chained_lines xs ++ ((x ++ mark) ++ late)) ++ rest) (blocks l ++ other)) (sym right) found))
          ]
    ]

-- the batches up to a mark within a chain
pub record UpTo (batches : List Lines) (old : Lines) (m : List ℕ) (late : Lines) : Type 0 where
  pub front : List Lines
  pub lines : chained_lines front ≡ old ++ m ∷ []
  pub marked : front_of front ≡ m ++ newline ∷ []
  pub none : HaveNoMark front
  pub are : AreLines front

pub no_mark_within : (batch old : Lines) (m : List ℕ) (late : Lines) → HasNoMark batch → is_mark m ≡ true → batch ≡ old ++ m ∷ late → ⊥
no_mark_within [] [] m late none is same = cc same
no_mark_within [] (y ∷ old) m late none is same = cc same
no_mark_within (x ∷ batch) [] m late none is same = cc (none.0, is, ap is_mark (heads same))
no_mark_within (x ∷ batch) (y ∷ old) m late none is same = no_mark_within batch old m late none.1 is (tails same)

pub alone : (line : List ℕ) (old : Lines) (m : List ℕ) (late : Lines) → line ∷ [] ≡ old ++ m ∷ late → (line ≡ m) × (old ≡ [])
alone line [] m late same = (heads same, refl)
alone line (y ∷ []) m late same = absurd (cc (tails same))
alone line (y ∷ z ∷ old) m late same = absurd (cc (tails same))

pub up_to : (batches : List Lines) (old : Lines) (m : List ℕ) (late : Lines) → AreLines batches → HaveNoMark batches → is_mark m ≡ true → chained_lines batches ≡ old ++ m ∷ late → UpTo batches old m late
up_to [] [] m late are none is same = absurd (cc same)
up_to [] (y ∷ old) m late are none is same = absurd (cc same)
up_to (batch ∷ older) old m late are none is same =
    let mark = mark_of (front_of older ++ blocks batch) in
    elim (where_it_is (chained_lines older) (batch ++ mark ∷ []) old m late same) [
      | inl found ↦
          let deeper = up_to older old m found.more are.1 none.1 is found.here in
          record { front = deeper.front; lines = deeper.lines; marked = deeper.marked; none = deeper.none; are = deeper.are }
      | inr found ↦
          elim (where_it_is batch (mark ∷ []) found.more m late found.here) [
            | inl inside ↦ absurd (no_mark_within batch found.more m inside.more none.0 is inside.here)
            | inr last ↦
                let one = alone mark last.more m late last.here in
                let is_batch : found.more ≡ batch = last.then ∙ ap (λ (l : Lines). batch ++ l) one.1 ∙ append-nil batch in
                record {
                  front = batch ∷ older;
                  lines =
                      sym (append_assoc (chained_lines older) batch (mark ∷ []))
                      ∙ ap (λ (l : Lines). (chained_lines older ++ l) ++ mark ∷ []) (sym is_batch)
                      ∙ ap (λ (l : Lines). l ++ mark ∷ []) (sym found.then)
                      ∙ ap (λ (l : List ℕ). old ++ l ∷ []) one.0;
                  marked = ap (λ (l : List ℕ). l ++ newline ∷ []) one.0;
                  none = none;
                  are = are;
                }
          ]
    ]

-- two files that share a mark
pub one_log : (a b : List ℕ) (mark : List ℕ) (old new late later : Lines) → IsSealed a → IsSealed b → is_mark mark ≡ true
    → recovered_lines a ≡ old ++ mark ∷ late → recovered_lines b ≡ new ++ mark ∷ later → (old ≡ new) ⊎ Collision a b
one_log a b mark old new late later first second is in_a in_b =
    let all_a = subst AllLines first.chain.split (all_lines a) in
    let all_b = subst AllLines second.chain.split (all_lines b) in
    let x = up_to first.chain.batches old mark late (are_lines first.chain.batches all_a) first.chain.unmarked is (sym first.chain.split ∙ in_a) in
    let y = up_to second.chain.batches new mark later (are_lines second.chain.batches all_b) second.chain.unmarked is (sym second.chain.split ∙ in_b) in
    let file_a : blocks (chained_lines x.front ++ late) ++ 0 ∷ first.shut.rest ≡ a =
    ap (λ (l : Lines). blocks (l ++ late) ++ 0 ∷ first.shut.rest) x.lines
    ∙ ap (λ (l : Lines). blocks l ++ 0 ∷ first.shut.rest) (append_assoc old (mark ∷ []) late ∙ sym in_a)
    ∙ sym first.shut.split in
    let file_b : blocks (chained_lines y.front ++ later) ++ 0 ∷ second.shut.rest ≡ b =
    ap (λ (l : Lines). blocks (l ++ later) ++ 0 ∷ second.shut.rest) y.lines
    ∙ ap (λ (l : Lines). blocks l ++ 0 ∷ second.shut.rest) (append_assoc new (mark ∷ []) later ∙ sym in_b)
    ∙ sym second.shut.split in
    elim (same_front x.front y.front late later (0 ∷ first.shut.rest) (0 ∷ second.shut.rest) x.are y.are x.none y.none (x.marked ∙ sym y.marked)) [
      | inl same ↦ inl (append_cancel_right old new (mark ∷ []) (sym x.lines ∙ ap chained_lines same ∙ y.lines))
      | inr found ↦ inr (subst (λ (l : List ℕ). Collision l b) file_a (subst (λ (l : List ℕ). Collision (blocks (chained_lines x.front ++ late) ++ 0 ∷ first.shut.rest) l) file_b found))
    ]
