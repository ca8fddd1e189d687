-- Lines that are written piece by piece.
use Rattle.std.proofs.Common.{◌≡◌, ℕ, ℤ, List, [], ◌∷◌, ◌++◌, Option, Some, Result, Ok, Err, sym, ◌∙◌, ap, append_assoc}
use Rattle.std.specs.Prelude.{codes, is_ok, if◌then◌else◌, OnOk}
use Rattle.std.proofs.lemmas.List.{append-nil}
use Rattle.day_number.specs.Day.{day_text}
use Rattle.fixed_amount.specs.Decimal.{decimal_text}
use Rattle.desk_terms.specs.declared.terms.Terms.{Terms}
use Rattle.desk_terms.specs.declared.asked.Mark.{Mark}
use Rattle.desk_terms.specs.Asked.{mark_word}
use Rattle.desk_terms.specs.Reading.{Outcome}
use Rattle.desk_model.specs.Market.{terms_at}
use Rattle.price_report.specs.Line.{point_text}
use Rattle.session_model.specs.Standing.{Standing}
use Rattle.why_model.specs.Workings.{PartProduct, NodeRate, FlowProduct, sum_of_flows}
use Rattle.why_model.specs.Answer.{named, terms_word, shown_text, parts_text, node_rates_text, fixing_text, flows_text}
use Rattle.why_model.specs.Answer.{sum_text}
use Rattle.session_why.specs.Lasts.{line_in}

-- a piece behind what was there, and the rest of the line behind it
pub wrote : (old new piece rest : List ℕ) → new ≡ old ++ piece → new ++ rest ≡ old ++ (piece ++ rest)
wrote old new piece rest is = ap (λ (l : List ℕ). l ++ rest) is ∙ append_assoc old piece rest

-- two pieces
pub both : (old new first second rest : List ℕ) → new ≡ old ++ first ++ second
    → new ++ rest ≡ old ++ (first ++ (second ++ rest))
both old new first second rest is =
    ap (λ (l : List ℕ). l ++ rest) is ∙ append_assoc (old ++ first) second rest
    ∙ append_assoc old first (second ++ rest)

-- the last piece
pub ends : {A E : Type 0} (r : Result A E) (new last piece whole : List ℕ)
    → new ≡ (if is_ok r then last ++ piece else last)
    → last ++ piece ≡ whole → OnOk r (new ≡ whole)
ends (Ok x) new last piece whole is all = is ∙ all
ends (Err e) new last piece whole is all = tt

pub ends_by : {A E : Type 0} (r : Result A E) (new last whole : List ℕ) → OnOk r (new ≡ last) → last ≡ whole
    → OnOk r (new ≡ whole)
ends_by (Ok x) new last whole is all = is ∙ all
ends_by (Err e) new last whole is all = tt

-- units that are known by another name
pub units_as : (old new : List ℕ) (places : ℕ) (a b : ℤ) → new ≡ old ++ codes " " ++ decimal_text a places → a ≡ b
    → new ≡ old ++ codes " " ++ decimal_text b places
units_as old new places a b is same = is ∙ ap (λ (z : ℤ). old ++ codes " " ++ decimal_text z places) same

pub piece_as : (old new a b : List ℕ) → new ≡ old ++ a → a ≡ b → new ≡ old ++ b
piece_as old new a b is same = is ∙ ap (λ (l : List ℕ). old ++ l) same

-- a text that is known by another name
pub text_as : {A E : Type 0} (r : Result A E) (new old a b : List ℕ) → OnOk r (new ≡ old ++ a) → a ≡ b
    → OnOk r (new ≡ old ++ b)
text_as (Ok x) new old a b is same = piece_as old new a b is same
text_as (Err e) new old a b is same = tt

-- ---- texts, as they are written and as they are defined

four : (a b c d : List ℕ) → a ++ (b ++ (c ++ d)) ≡ a ++ b ++ c ++ d
four a b c d = simp append_assoc

five : (a b c d e : List ℕ) → a ++ (b ++ (c ++ (d ++ e))) ≡ a ++ b ++ c ++ d ++ e
five a b c d e = simp append_assoc

eight : (a b c d e f g h : List ℕ)
    → a ++ (b ++ (c ++ (d ++ (e ++ (f ++ (g ++ h)))))) ≡ a ++ b ++ c ++ d ++ e ++ f ++ g ++ h
eight a b c d e f g h = simp append_assoc

ten : (a b c d e f g h i j : List ℕ)
    → a ++ (b ++ (c ++ (d ++ (e ++ (f ++ (g ++ (h ++ (i ++ j)))))))) ≡ a ++ b ++ c ++ d ++ e ++ f ++ g ++ h ++ i ++ j
ten a b c d e f g h i j = simp append_assoc

eleven : (a b c d e f g h i j k : List ℕ)
    → a ++ (b ++ (c ++ (d ++ (e ++ (f ++ (g ++ (h ++ (i ++ (j ++ k)))))))))
    ≡ a ++ b ++ c ++ d ++ e ++ f ++ g ++ h ++ i ++ j ++ k
eleven a b c d e f g h i j k = simp append_assoc

behind : (old : List ℕ) (text whole : List ℕ) → text ≡ whole → old ++ text ≡ old ++ whole
behind old text whole is = ap (λ (l : List ℕ). old ++ l) is

module _ (name old a b c d e f : List ℕ) where
  flow_pieces : (day amount factor product fixing : List ℕ) → a ≡ old ++ name ++ codes " flow"
      → b ≡ a ++ codes " " ++ day
      → c ≡ b ++ codes " " ++ amount → d ≡ c ++ codes " " ++ factor → e ≡ d ++ codes " " ++ product → f ≡ e ++ fixing
      → f ++ codes "\n"
      ≡ old ++ (name ++ codes " flow " ++ day ++ codes " " ++ amount ++ codes " " ++ factor ++ codes " " ++ product
      ++ fixing ++ codes "\n" ++ [])
  flow_pieces day amount factor product fixing heads pays amounts factors products fixes =
      wrote e f fixing (codes "\n") fixes
      ∙ both d e (codes " ") product (fixing ++ codes "\n") products
      ∙ both c d (codes " ") factor (codes " " ++ (product ++ (fixing ++ codes "\n"))) factors
      ∙ both b c (codes " ") amount (codes " " ++ (factor ++ (codes " " ++ (product ++ (fixing ++ codes "\n")))))
      amounts
      ∙ both a b (codes " ") day
      (codes " " ++ (amount ++ (codes " " ++ (factor ++ (codes " " ++ (product ++ (fixing ++ codes "\n"))))))) pays
      ∙ both old a name (codes " flow")
      (codes " " ++ (day ++ (codes " " ++ (amount ++ (codes " " ++ (factor ++ (codes " "
      ++ (product ++ (fixing ++ codes "\n"))))))))) heads
      ∙ behind old _ _ (eleven name (codes " flow ") day (codes " ") amount (codes " ") factor (codes " ") product
      fixing (codes "\n")
      ∙ sym (append-nil _))

  -- a flow
  pub flow_line : (flow : FlowProduct) → a ≡ old ++ name ++ codes " flow" → b ≡ a ++ codes " " ++ day_text flow.paid
      → c ≡ b ++ codes " " ++ decimal_text flow.amount 6 → d ≡ c ++ codes " " ++ decimal_text flow.factor 12
      → e ≡ d ++ codes " " ++ decimal_text flow.product 18 → f ≡ e ++ fixing_text flow.fixing
      → f ++ codes "\n" ≡ old ++ flows_text name (flow ∷ [])
  flow_line flow =
      flow_pieces (day_text flow.paid) (decimal_text flow.amount 6) (decimal_text flow.factor 12)
      (decimal_text flow.product 18)
      (fixing_text flow.fixing)

  part_pieces : (weight member worth product : List ℕ) → a ≡ old ++ name ++ codes " part" → b ≡ a ++ codes " " ++ weight
      → c ≡ b ++ codes " " ++ member → d ≡ c ++ codes " " ++ worth → e ≡ d ++ codes " " ++ product
      → e ++ codes "\n"
      ≡ old ++ (name ++ codes " part " ++ weight ++ codes " " ++ member ++ codes " " ++ worth ++ codes " " ++ product
      ++ codes "\n" ++ [])
  part_pieces weight member worth product heads weighs members worths products =
      both d e (codes " ") product (codes "\n") products
      ∙ both c d (codes " ") worth (codes " " ++ (product ++ codes "\n")) worths
      ∙ both b c (codes " ") member (codes " " ++ (worth ++ (codes " " ++ (product ++ codes "\n")))) members
      ∙ both a b (codes " ") weight
      (codes " " ++ (member ++ (codes " " ++ (worth ++ (codes " " ++ (product ++ codes "\n")))))) weighs
      ∙ both old a name (codes " part")
      (codes " " ++ (weight ++ (codes " " ++ (member ++ (codes " " ++ (worth ++ (codes " "
      ++ (product ++ codes "\n")))))))) heads
      ∙ behind old _ _ (ten name (codes " part ") weight (codes " ") member (codes " ") worth (codes " ") product
      (codes "\n")
      ∙ sym (append-nil _))

  -- a part
  pub part_line : (p : Standing) (part : PartProduct) → a ≡ old ++ name ++ codes " part"
      → b ≡ a ++ codes " " ++ decimal_text part.weight 0 → c ≡ b ++ codes " " ++ named p part.member
      → d ≡ c ++ codes " " ++ decimal_text part.worth 6 → e ≡ d ++ codes " " ++ decimal_text part.product 6
      → e ++ codes "\n" ≡ old ++ parts_text p name (part ∷ [])
  part_line p part =
      part_pieces (decimal_text part.weight 0) (named p part.member) (decimal_text part.worth 6)
      (decimal_text part.product 6)

  node_pieces : (point quote rate : List ℕ) → a ≡ old ++ name ++ codes " node" → b ≡ a ++ codes " " ++ point
      → c ≡ b ++ codes " " ++ quote → d ≡ c ++ codes " " ++ rate
      → d ++ codes "\n"
      ≡ old ++ (name ++ codes " node " ++ point ++ codes " " ++ quote ++ codes " " ++ rate ++ codes "\n" ++ [])
  node_pieces point quote rate heads points quotes rates =
      both c d (codes " ") rate (codes "\n") rates
      ∙ both b c (codes " ") quote (codes " " ++ (rate ++ codes "\n")) quotes
      ∙ both a b (codes " ") point (codes " " ++ (quote ++ (codes " " ++ (rate ++ codes "\n")))) points
      ∙ both old a name (codes " node")
      (codes " " ++ (point ++ (codes " " ++ (quote ++ (codes " " ++ (rate ++ codes "\n")))))) heads
      ∙ behind old _ _ (eight name (codes " node ") point (codes " ") quote (codes " ") rate (codes "\n") ∙ sym
      (append-nil _))

  -- a node with its quote and rate
  pub node_line : (p : Standing) (node : NodeRate) → a ≡ old ++ name ++ codes " node"
      → b ≡ a ++ codes " " ++ point_text node.node.day node.node.factor → c ≡ b ++ codes " " ++ named p node.quote
      → d ≡ c ++ codes " " ++ decimal_text node.rate 9 → d ++ codes "\n" ≡ old ++ node_rates_text p name (node ∷ [])
  node_line p node =
      node_pieces (point_text node.node.day node.node.factor) (named p node.quote) (decimal_text node.rate 9)

-- a fixing
fixing_pieces : (day rate old a b : List ℕ) → a ≡ old ++ codes " fixing" → b ≡ a ++ codes " " ++ day
    → b ++ codes " " ++ rate ≡ old ++ (codes " fixing " ++ day ++ codes " " ++ rate)
fixing_pieces day rate old a b words days =
    append_assoc b (codes " ") rate
    ∙ both a b (codes " ") day (codes " " ++ rate) days
    ∙ wrote old a (codes " fixing") (codes " " ++ (day ++ (codes " " ++ rate))) words
    ∙ behind old _ _ (four (codes " fixing ") day (codes " ") rate)

pub fixing_line : {A E : Type 0} (r : Result A E) (day rate : ℤ) (old a b new : List ℕ) → a ≡ old ++ codes " fixing"
    → b ≡ a ++ codes " " ++ day_text day → OnOk r (new ≡ b ++ codes " " ++ decimal_text rate 9)
    → OnOk r (new ≡ old ++ fixing_text (Some (day, rate)))
fixing_line r day rate old a b new words days is =
    ends_by r new _ _ is (fixing_pieces (day_text day) (decimal_text rate 9) old a b words days)

-- the sum behind the flows
sum_pieces : (name flows sum old flowed a b : List ℕ) → flowed ≡ old ++ flows → a ≡ flowed ++ name ++ codes " sum"
    → b ≡ a ++ codes " " ++ sum → b ++ codes "\n" ≡ old ++ (flows ++ name ++ codes " sum " ++ sum ++ codes "\n")
sum_pieces name flows sum old flowed a b all heads sums =
    both a b (codes " ") sum (codes "\n") sums
    ∙ both flowed a name (codes " sum") (codes " " ++ (sum ++ codes "\n")) heads
    ∙ wrote old flowed flows (name ++ (codes " sum" ++ (codes " " ++ (sum ++ codes "\n")))) all
    ∙ behind old _ _ (five flows name (codes " sum ") sum (codes "\n"))

pub sum_line : (name old flowed a b : List ℕ) (flows : List FlowProduct) (sum : ℤ)
    → flowed ≡ old ++ flows_text name flows
    → sum ≡ sum_of_flows flows → a ≡ flowed ++ name ++ codes " sum" → b ≡ a ++ codes " " ++ decimal_text sum 18
    → b ++ codes "\n" ≡ old ++ sum_text name (Ok flows)
sum_line name old flowed a b flows sum all is heads sums =
    sum_pieces name (flows_text name flows) (decimal_text (sum_of_flows flows) 18) old flowed a b all heads
    (units_as a b 18 sum _ sums is)

-- a priced object
priced_pieces : (name word mark shown old a b c d : List ℕ) → a ≡ old ++ name ++ (codes " " ++ word)
    → b ≡ a ++ codes " "
    → c ≡ b ++ mark → d ≡ c ++ codes " " ++ shown
    → d ++ codes "\n" ≡ old ++ (name ++ codes " " ++ word ++ codes " " ++ mark ++ codes " " ++ shown ++ codes "\n")
priced_pieces name word mark shown old a b c d heads spaces marks shows =
    both c d (codes " ") shown (codes "\n") shows
    ∙ wrote b c mark (codes " " ++ (shown ++ codes "\n")) marks
    ∙ wrote a b (codes " ") (mark ++ (codes " " ++ (shown ++ codes "\n"))) spaces
    ∙ both old a name (codes " " ++ word) (codes " " ++ (mark ++ (codes " " ++ (shown ++ codes "\n")))) heads
    ∙ behind old _ _ (eight name (codes " ") word (codes " ") mark (codes " ") shown (codes "\n"))

pub priced_written : (p : Standing) (o : ℕ) (terms : Terms) (mark : Mark) (outcome : Outcome)
    (old word a b c d : List ℕ)
    → terms_at p.state.market o ≡ Some terms → word ≡ codes " " ++ terms_word terms → a ≡ old ++ named p o ++ word
    → b ≡ a ++ codes " "
    → c ≡ b ++ mark_word mark → d ≡ c ++ codes " " ++ shown_text p outcome
    → d ++ codes "\n" ≡ old ++ line_in p o (terms_at p.state.market o) mark outcome
priced_written p o terms mark outcome old word a b c d are words heads spaces marks shows =
    priced_pieces (named p o) (terms_word terms) (mark_word mark) (shown_text p outcome) old a b c d
    (heads ∙ ap (λ (l : List ℕ). old ++ named p o ++ l) words) spaces marks shows
    ∙ ap (λ (f : Option Terms). old ++ line_in p o f mark outcome) (sym are)

-- ---- lines of objects that are not priced

-- a name, words and a text
pub short_pieces : (name words text old a b : List ℕ) → a ≡ old ++ name ++ words → b ≡ a ++ codes " " ++ text
    → b ++ codes "\n" ≡ old ++ (name ++ (words ++ codes " ") ++ text ++ codes "\n")
short_pieces name words text old a b heads texts =
    both a b (codes " ") text (codes "\n") texts
    ∙ both old a name words (codes " " ++ (text ++ codes "\n")) heads
    ∙ behind old _ _ (ap (λ (l : List ℕ). name ++ l) (sym (append_assoc words (codes " ") (text ++ codes "\n")))
    ∙ four name (words ++ codes " ") text (codes "\n"))

pub passing_pieces : (name word names old a b : List ℕ) → a ≡ old ++ name ++ (codes " " ++ word) → b ≡ a ++ names
    → b ++ codes "\n" ≡ old ++ (name ++ codes " " ++ word ++ names ++ codes "\n")
passing_pieces name word names old a b heads follow =
    wrote a b names (codes "\n") follow
    ∙ both old a name (codes " " ++ word) (names ++ codes "\n") heads
    ∙ behind old _ _ (five name (codes " ") word names (codes "\n"))
