-- Different settings have different headers.
use Rattle.std.proofs.Common.{◌≡◌, ◌≢◌, ◌^◌, ℕ, ◌<◌, Bool, true, false, ◌==◌, ◌||◌, List, [], ◌∷◌, ◌++◌, length, length-append, take, drop, get_or, codes, decimal, append_assoc, refl, sym, ◌∙◌, ap, ap₂, arith}
use Rattle.std.specs.List.{list_all, AllByRecursion}
use Rattle.std.specs.Str.Parse.{AllDigits}
use Rattle.std.proofs.lemmas.Bool.{and_parts, false≢true}
use Rattle.std.proofs.lemmas.Fmt.{decimal_injective, decimal_is_IsNumeral}
use Rattle.std.proofs.lemmas.Str.Parse.{digit_from_value}
use Rattle.std.proofs.lemmas.List.{append_cancel_right, take_at}
use Rattle.inst_base.specs.Text.{is_code, is_code_character}
use Rattle.inst_settings.specs.Settings.{HubSettings}
use Rattle.inst_settings.specs.Lawful.{AreOfAHub, settings_with}
use Rattle.inst_lines.specs.declared.mode.Mode.{Mode}
use Rattle.inst_lines.specs.declared.mode.Mode.TheVariants.{Run, Play}
use Rattle.inst_log.specs.Layout.{at_rest}
use Rattle.inst_chain.specs.Chain.{mark_of}
use Rattle.inst_chain.proofs.LinesWithoutMarks.{length-mark_of}
use Rattle.inst_logged.specs.declared.version.Version.{Version}
use Rattle.inst_logged.specs.declared.version.Version.TheVariants.{One, Two}
use Rattle.inst_logged.specs.Header.{header, header_line, first_origin, lines_and_mark, version_word, header_field, mode_field, participants_field, mode_word, quoted_codes, comma_if, quoted, HeadersTellTheirSettings}

-- no byte is this one
abbrev Lacks : ℕ → List ℕ → Type 0
Lacks stop bytes = AllByRecursion (λ (b : ℕ). b ≢ stop) bytes

-- what stands before the first such byte, and behind it
text_then : (stop : ℕ) (a b x y : List ℕ) → Lacks stop a → Lacks stop b → a ++ stop ∷ x ≡ b ++ stop ∷ y → (a ≡ b) × (x ≡ y)
text_then stop [] [] x y la lb e = (refl, ap (drop 1) e)
text_then stop [] (q ∷ b) x y la lb e = absurd (lb.0 (sym (ap (λ (l : List ℕ). get_or l 0 0) e)))
text_then stop (p ∷ a) [] x y la lb e = absurd (la.0 (ap (λ (l : List ℕ). get_or l 0 0) e))
text_then stop (p ∷ a) (q ∷ b) x y la lb e =
    let rest = text_then stop a b x y la.1 lb.1 (ap (drop 1) e) in
    (ap₂ (λ (c : ℕ) (l : List ℕ). c ∷ l) (ap (λ (l : List ℕ). get_or l 0 0) e) rest.0, rest.1)

digits_lack : (ds : List ℕ) → AllDigits 10 ds → Lacks 44 ds
digits_lack [] all = tt
digits_lack (d ∷ ds) all = ((λ is. let k = digit_from_value d all.0 in omega (arith, k, is)), digits_lack ds all.1)

-- a number, and what stands behind its comma
pub number_then : (m n : ℕ) (x y : List ℕ) → m < 2 ^ 64 → n < 2 ^ 64 → decimal m ++ 44 ∷ x ≡ decimal n ++ 44 ∷ y → (m ≡ n) × (x ≡ y)
number_then m n x y small small' e =
    let t = text_then 44 (decimal m) (decimal n) x y (digits_lack (decimal m) (decimal_is_IsNumeral m small).0.1) (digits_lack (decimal n) (decimal_is_IsNumeral n small').0.1) e in
    (decimal_injective m n small small' t.0, t.1)

-- codes between quotes, and what stands behind their bracket
abbrev listed_then : Bool → List (List ℕ) → List ℕ → List ℕ
listed_then later [] tail = 93 ∷ tail
listed_then later (code ∷ others) tail = comma_if later ++ 34 ∷ (code ++ 34 ∷ listed_then true others tail)

as_listed : (later : Bool) (cs : List (List ℕ)) (tail : List ℕ) → quoted_codes later cs ++ 93 ∷ tail ≡ listed_then later cs tail
as_listed later [] tail = refl
as_listed later (code ∷ others) tail =
    let front = comma_if later ++ quoted code in
    let rest = listed_then true others tail in
    append_assoc front (quoted_codes true others) (93 ∷ tail)
    ∙ ap (λ (l : List ℕ). front ++ l) (as_listed true others tail)
    ∙ append_assoc (comma_if later) (quoted code) rest
    ∙ ap (λ (l : List ℕ). comma_if later ++ 34 ∷ l) (append_assoc code (34 ∷ []) rest)

abbrev AllLack : List (List ℕ) → Type 0
AllLack cs = AllByRecursion (Lacks 34) cs

listed_same : (later : Bool) (cs ds : List (List ℕ)) (x y : List ℕ) → AllLack cs → AllLack ds → listed_then later cs x ≡ listed_then later ds y → (cs ≡ ds) × (x ≡ y)
listed_same later [] [] x y lc ld e = (refl, ap (drop 1) e)
listed_same true [] (d ∷ ds) x y lc ld e = absurd (let no : 93 ≡ 44 = ap (λ (l : List ℕ). get_or l 0 0) e in omega (arith, no))
listed_same false [] (d ∷ ds) x y lc ld e = absurd (let no : 93 ≡ 34 = ap (λ (l : List ℕ). get_or l 0 0) e in omega (arith, no))
listed_same true (c ∷ cs) [] x y lc ld e = absurd (let no : 44 ≡ 93 = ap (λ (l : List ℕ). get_or l 0 0) e in omega (arith, no))
listed_same false (c ∷ cs) [] x y lc ld e = absurd (let no : 34 ≡ 93 = ap (λ (l : List ℕ). get_or l 0 0) e in omega (arith, no))
listed_same true (c ∷ cs) (d ∷ ds) x y lc ld e =
    let one = text_then 34 c d (listed_then true cs x) (listed_then true ds y) lc.0 ld.0 (ap (drop 2) e) in
    let others = listed_same true cs ds x y lc.1 ld.1 one.1 in
    (ap₂ (λ (l : List ℕ) (ls : List (List ℕ)). l ∷ ls) one.0 others.0, others.1)
listed_same false (c ∷ cs) (d ∷ ds) x y lc ld e =
    let one = text_then 34 c d (listed_then true cs x) (listed_then true ds y) lc.0 ld.0 (ap (drop 1) e) in
    let others = listed_same true cs ds x y lc.1 ld.1 one.1 in
    (ap₂ (λ (l : List ℕ) (ls : List (List ℕ)). l ∷ ls) one.0 others.0, others.1)

code_lacks : (code : List ℕ) → list_all is_code_character code ≡ true → Lacks 34 code
code_lacks [] formed = tt
code_lacks (c ∷ cs) formed =
    let p = and_parts (is_code_character c) (list_all is_code_character cs) formed in
    ((λ is. false≢true (ap is_code_character (sym is) ∙ p.0)), code_lacks cs p.1)

codes_lack : (cs : List (List ℕ)) → list_all is_code cs ≡ true → AllLack cs
codes_lack [] formed = tt
codes_lack (c ∷ cs) formed =
    let p = and_parts (is_code c) (list_all is_code cs) formed in
    let q = and_parts (length c == 8 || length c == 11) (list_all is_code_character c) p.0 in
    (code_lacks c q.1, codes_lack cs p.1)

-- what lines stand for, by its word
mode_then : (mode other : Mode) (x y : List ℕ) → (mode_word mode ++ 34 ∷ []) ++ x ≡ (mode_word other ++ 34 ∷ []) ++ y → (mode ≡ other) × (x ≡ y)
mode_then Run Run x y e = (refl, ap (drop 4) e)
mode_then Play Play x y e = (refl, ap (drop 5) e)
mode_then Run Play x y e = absurd (let no : 114 ≡ 112 = ap (λ (l : List ℕ). get_or l 0 0) e in omega (arith, no))
mode_then Play Run x y e = absurd (let no : 112 ≡ 114 = ap (λ (l : List ℕ). get_or l 0 0) e in omega (arith, no))

all_same : (s t : HubSettings) → s.codes ≡ t.codes → s.places ≡ t.places → s.fundings ≡ t.fundings → s.limit ≡ t.limit → s.margin ≡ t.margin → s.ahead ≡ t.ahead
    → s.ceiling ≡ t.ceiling → s.base ≡ t.base → s ≡ t
all_same s t codes places fundings limit margin ahead ceiling base =
    ap (λ x. settings_with x s.places s.fundings s.limit s.margin s.ahead s.ceiling s.base) codes
    ∙ ap (λ x. settings_with t.codes x s.fundings s.limit s.margin s.ahead s.ceiling s.base) places
    ∙ ap (λ x. settings_with t.codes t.places x s.limit s.margin s.ahead s.ceiling s.base) fundings
    ∙ ap (λ x. settings_with t.codes t.places t.fundings x s.margin s.ahead s.ceiling s.base) limit
    ∙ ap (λ x. settings_with t.codes t.places t.fundings t.limit x s.ahead s.ceiling s.base) margin
    ∙ ap (λ x. settings_with t.codes t.places t.fundings t.limit t.margin x s.ceiling s.base) ahead
    ∙ ap (λ x. settings_with t.codes t.places t.fundings t.limit t.margin t.ahead x s.base) ceiling
    ∙ ap (λ x. settings_with t.codes t.places t.fundings t.limit t.margin t.ahead t.ceiling x) base

module _ (version : Version) where
  -- what stands behind the comma of each number, the word and the participants
  abbrev after_codes : HubSettings → List ℕ
  after_codes u = codes ",\"places\":" ++ (decimal u.places ++ 44 ∷ version_word version)

  abbrev after_margin : HubSettings → List ℕ
  after_margin u = codes "\"participants\":[" ++ ((quoted_codes false u.codes ++ 93 ∷ []) ++ after_codes u)

  abbrev after_mode : HubSettings → List ℕ
  after_mode u = codes ",\"margin\":" ++ (decimal u.margin ++ 44 ∷ after_margin u)

  abbrev after_limit : Mode → HubSettings → List ℕ
  after_limit mode u = codes "\"log\":\"" ++ ((mode_word mode ++ 34 ∷ []) ++ after_mode u)

  abbrev after_fundings : Mode → HubSettings → List ℕ
  after_fundings mode u = codes "\"limit\":" ++ (decimal u.limit ++ 44 ∷ after_limit mode u)

  abbrev after_ceiling : Mode → HubSettings → List ℕ
  after_ceiling mode u = codes "\"fundings\":" ++ (decimal u.fundings ++ 44 ∷ after_fundings mode u)

  abbrev after_base : Mode → HubSettings → List ℕ
  after_base mode u = codes "\"ceiling\":" ++ (decimal u.ceiling ++ 44 ∷ after_ceiling mode u)

  abbrev after_ahead : Mode → HubSettings → List ℕ
  after_ahead mode u = codes "\"base\":" ++ (decimal u.base ++ 44 ∷ after_base mode u)

  -- twelve pieces, one after the other
  flat : (a b c d e f g h i j k l : List ℕ) → a ++ b ++ c ++ d ++ e ++ f ++ g ++ h ++ i ++ j ++ k ++ l ≡ a ++ (b ++ (c ++ (d ++ (e ++ (f ++ (g ++ (h ++ (i ++ (j ++ (k ++ l))))))))))
  flat a b c d e f g h i j k l =
      let x2 = a ++ b in
      let x3 = x2 ++ c in
      let x4 = x3 ++ d in
      let x5 = x4 ++ e in
      let x6 = x5 ++ f in
      let x7 = x6 ++ g in
      let x8 = x7 ++ h in
      let x9 = x8 ++ i in
      let x10 = x9 ++ j in
      let y11 = k ++ l in
      let y10 = j ++ y11 in
      let y9 = i ++ y10 in
      let y8 = h ++ y9 in
      let y7 = g ++ y8 in
      let y6 = f ++ y7 in
      let y5 = e ++ y6 in
      let y4 = d ++ y5 in
      let y3 = c ++ y4 in
      append_assoc x10 k l ∙ append_assoc x9 j y11 ∙ append_assoc x8 i y10 ∙ append_assoc x7 h y9 ∙ append_assoc x6 g y8 ∙ append_assoc x5 f y7 ∙ append_assoc x4 e y6 ∙ append_assoc x3 d y5
      ∙ append_assoc x2 c y4 ∙ append_assoc a b y3

  line_is : (mode : Mode) (u : HubSettings) → header_line version mode u first_origin ≡ codes "{\"ahead\":" ++ (decimal u.ahead ++ 44 ∷ after_ahead mode u)
  line_is mode u =
      flat (header_field (codes "{\"ahead\":") u.ahead) (header_field (codes ",\"base\":") u.base) [] (header_field (codes ",\"ceiling\":") u.ceiling) (header_field (codes ",\"fundings\":") u.fundings)
      (header_field (codes ",\"limit\":") u.limit) (mode_field mode) (header_field (codes ",\"margin\":") u.margin) (participants_field u.codes) (header_field (codes ",\"places\":") u.places) [] (44 ∷ version_word version)

  module _ (mode other : Mode) (s t : HubSettings) (of : AreOfAHub s) (of' : AreOfAHub t) where
    codes_tell : after_margin s ≡ after_margin t → (s.codes ≡ t.codes) × (s.places ≡ t.places)
    codes_tell e =
        let as_read : (u : HubSettings) → (quoted_codes false u.codes ++ 93 ∷ []) ++ after_codes u ≡ listed_then false u.codes (after_codes u) =
        λ u. append_assoc (quoted_codes false u.codes) (93 ∷ []) (after_codes u) ∙ as_listed false u.codes (after_codes u) in
        let both = listed_same false s.codes t.codes (after_codes s) (after_codes t) (codes_lack s.codes of.codes_formed) (codes_lack t.codes of'.codes_formed)
        (sym (as_read s) ∙ ap (drop 16) e ∙ as_read t) in
        (both.0, (number_then s.places t.places _ _ (omega (arith, of.lawful.places_most)) (omega (arith, of'.lawful.places_most)) (ap (drop 10) both.1)).0)

    lines_tell : header_line version mode s first_origin ≡ header_line version other t first_origin → (mode ≡ other) × (s ≡ t)
    lines_tell e =
        let ahead = number_then s.ahead t.ahead (after_ahead mode s) (after_ahead other t) (omega (arith, of.lawful.ahead_most)) (omega (arith, of'.lawful.ahead_most)) (ap (drop 9) (sym (line_is mode s) ∙ e ∙ line_is other t)) in
        let base = number_then s.base t.base (after_base mode s) (after_base other t) (omega (arith, of.lawful.base_most)) (omega (arith, of'.lawful.base_most)) (ap (drop 7) ahead.1) in
        let ceiling = number_then s.ceiling t.ceiling (after_ceiling mode s) (after_ceiling other t) (omega (arith, of.lawful.ceiling_most)) (omega (arith, of'.lawful.ceiling_most)) (ap (drop 10) base.1) in
        let fundings = number_then s.fundings t.fundings (after_fundings mode s) (after_fundings other t) (omega (arith, of.lawful.fundings_most)) (omega (arith, of'.lawful.fundings_most)) (ap (drop 11) ceiling.1) in
        let limit = number_then s.limit t.limit (after_limit mode s) (after_limit other t) (omega (arith, of.lawful.limit_most)) (omega (arith, of'.lawful.limit_most)) (ap (drop 8) fundings.1) in
        let modes = mode_then mode other (after_mode s) (after_mode t) (ap (drop 7) limit.1) in
        let margin = number_then s.margin t.margin (after_margin s) (after_margin t) (omega (arith, of.lawful.limit_most, of.lawful.margin_below)) (omega (arith, of'.lawful.limit_most, of'.lawful.margin_below)) (ap (drop 10) modes.1) in
        let both = codes_tell margin.1 in
        (modes.0, all_same s t both.0 both.1 fundings.0 limit.0 margin.0 ahead.0 ceiling.0 base.0)

-- what comes before tails of one length
before_tails : (a b x y : List ℕ) → length x ≡ length y → a ++ x ≡ b ++ y → a ≡ b
before_tails a b x y same e =
    let size : length a ≡ length b = omega (arith, same, ap length e, length-append a x, length-append b y) in
    sym (take_at a x (length a) refl) ∙ ap (take (length a)) e ∙ take_at b y (length a) (sym size)

-- the mark behind a line, with the bytes around it
abbrev mark_tail : List ℕ → List ℕ
mark_tail line = 10 ∷ ((mark_of (line ++ 10 ∷ []) ++ 10 ∷ []) ++ 0 ∷ [])

tail_length : (line : List ℕ) → length (mark_tail line) ≡ 70
tail_length line =
    omega (arith, length-mark_of (line ++ 10 ∷ []), length-append (mark_of (line ++ 10 ∷ [])) (10 ∷ []), length-append (mark_of (line ++ 10 ∷ []) ++ 10 ∷ []) (0 ∷ []))

-- a marked line, up to its end
marked_split : (line : List ℕ) → at_rest (lines_and_mark Two (line ∷ [])) ≡ line ++ mark_tail line
marked_split line = append_assoc line (10 ∷ (mark_of (line ++ 10 ∷ []) ++ 10 ∷ [])) (0 ∷ [])

headers_tell : (version : Version) (mode other : Mode) (s t : HubSettings) → AreOfAHub s → AreOfAHub t → header version mode s ≡ header version other t → (mode ≡ other) × (s ≡ t)
unfolding header
headers_tell One mode other s t of of' e =
    let a = header_line One mode s first_origin in
    let b = header_line One other t first_origin in
    lines_tell One mode other s t of of' (append_cancel_right a b (10 ∷ []) (append_cancel_right (a ++ 10 ∷ []) (b ++ 10 ∷ []) (0 ∷ []) e))
headers_tell Two mode other s t of of' e =
    let a = header_line Two mode s first_origin in
    let b = header_line Two other t first_origin in
    lines_tell Two mode other s t of of'
    (before_tails a b (mark_tail a) (mark_tail b) (tail_length a ∙ sym (tail_length b)) (sym (marked_split a) ∙ e ∙ marked_split b))

pub all_headers_tell : HeadersTellTheirSettings
all_headers_tell version mode other s t of of' e = headers_tell version mode other s t of of' e
