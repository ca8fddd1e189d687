-- A sheet writes and computes the same however sessions number its names, and as its parts do.
use Rattle.std.proofs.Common.{◌≡◌, ℕ, ◌+◌, ℤ, Bool, true, false, if◌then◌else◌, int_le, List, [], ◌∷◌, ◌++◌, length, codes, Option, Some, None, refl, sym, ◌∙◌, ap, subst, arith, All}
use Rattle.std.specs.Prelude.{slice_index_or, option_map}
use Rattle.std.proofs.lemmas.Int.{ints}
use Rattle.std.proofs.lemmas.List.{map-append, append_assoc}
use Rattle.std.proofs.lemmas.List.Elements.{All-nil, All-cons, All-head, All-tail, All-append}
use Rattle.desk_terms.specs.Reading.{Calc}
use Rattle.session_commands.specs.declared.command.Command.{Command}
use Rattle.session_commands.specs.Whole.{IsCommand}
use Rattle.session_model.specs.Rounds.{transcript, calls_of}
use Rattle.session_model.proofs.Wider.{IsBelow}
use Rattle.tool_script.specs.Kinds.{asked_name}
use Rattle.tool_script.specs.Scenario.{Basis, Scenario, ordered, first_of, after, scenario_lines, scenario_calls, scenario_values}
use Rattle.tool_script.specs.Grid.{label_text, asked_text, scenario_text, scenario_texts, scenarios_calls, rows_of, column, worst_text, worst_line, worst_lines}
use Rattle.tool_script.specs.Worst.{Worst, lower, with_value, worst_of}
use Rattle.tool_script.specs.Renumbered.{renumber, renumbered, renumbered_all, renumbered_scenario, renumbered_scenarios, Sheet, basis_among, among, IsLabel, IsScenario, IsSheet, Hold}
use Rattle.tool_script.specs.GridLaws.{NumbersChangeNothing, PartsMakeTheGrid, with_scenarios, told_worst, sheet_texts, sheet_calls, sheet_grid, sheet_worst, less_of}
use Rattle.tool_script.proofs.Renumbered.{Renumbers, said}
use Rattle.tool_script.proofs.RenumberedRounds.{AreBoth, AreSaid, commands_both, values_both, places, first_both}

module _ (names others : List (List ℕ)) where
  -- the worst by other numbers
  abbrev Alike : Worst → Worst → Type 0
  Alike a b = (label_text others a.name ≡ label_text names b.name) × (a.amount ≡ b.amount)

  abbrev Same : Option Worst → Option Worst → Type 0
  Same None None = Unit {0}
  Same None (Some b) = ⊥
  Same (Some a) None = ⊥
  Same (Some a) (Some b) = Alike a b

  chosen : (a b c d : Worst) (x y : Bool) → x ≡ y → Alike a b → Alike c d → Same (if x then Some a else Some c) (if y then Some b else Some d)
  chosen a b c d true true same first second = first
  chosen a b c d true false same first second = absurd (cc)
  chosen a b c d false true same first second = absurd (cc)
  chosen a b c d false false same first second = second

  lower_same : (a b : Worst) (x y : Option Worst) → Alike a b → Same x y → Same (lower a x) (lower b y)
  lower_same a b None None alike same = alike
  lower_same a b None (Some d) alike same = absurd same
  lower_same a b (Some c) None alike same = absurd same
  lower_same a b (Some c) (Some d) alike same =
      chosen a b c d (int_le a.amount c.amount) (int_le b.amount d.amount)
      (ap (λ (amount : ℤ). int_le amount c.amount) alike.1 ∙ ap (int_le b.amount) same.1) alike same

  value_same : (one other : Option ℕ) (amount : Option ℤ) (x y : Option Worst) → label_text others one ≡ label_text names other → Same x y
      → Same (with_value one amount x) (with_value other amount y)
  value_same one other None x y label same = same
  value_same one other (Some amount) x y label same =
      lower_same (record { name = one; amount = amount }) (record { name = other; amount = amount }) x y (label, refl) same

  told_same : (x y : Option Worst) → Same x y → told_worst others x ≡ told_worst names y
  told_same None None same = refl
  told_same None (Some b) same = absurd same
  told_same (Some a) None same = absurd same
  told_same (Some a) (Some b) same = rw (same.0, same.1) refl

  text_same : (x y : Option Worst) → Same x y → worst_text others x ≡ worst_text names y
  text_same None None same = refl
  text_same None (Some b) same = absurd same
  text_same (Some a) None same = absurd same
  text_same (Some a) (Some b) same = rw (same.0, same.1) refl

module _ (calc : Calc) (sheet : Sheet) (others : List (List ℕ)) (is : IsSheet sheet) (hold : Hold others sheet.basis.names) where
  abbrev number : ℕ → ℕ
  number = renumber sheet.basis.names others

  abbrev there : Basis
  there = basis_among others sheet.basis

  abbrev asked : List Command
  asked = renumbered_all number sheet.asks

  abbrev pub numbers : Renumbers sheet.basis.names others number
  numbers = places sheet.basis.names others is.distinct hold

  pub begin : AreBoth sheet.basis.names others number numbers calc (first_of sheet.basis) (first_of there)
  begin = first_both sheet.basis others is.distinct hold calc is.today is.made

  pub label_same : (name : Option ℕ) → IsLabel (length sheet.basis.names) name → label_text others (option_map number name) ≡ label_text sheet.basis.names name
  label_same None low = refl
  label_same (Some name) low = numbers.text name low

  ask_same : (ask : Command) → IsCommand (length sheet.basis.names) 0 ask → asked_text others (asked_name (renumbered number ask)) ≡ asked_text sheet.basis.names (asked_name ask)
  ask_same ask known =
      let same = said sheet.basis.names others number numbers (first_of sheet.basis).standing begin.watching begin.below 0 ask known in
      ap (asked_text others) same.2 ∙ by (asked_name ask) same.3
    where
      by : (name : Option ℕ) → IsBelow (length sheet.basis.names) name → asked_text others (option_map number name) ≡ asked_text sheet.basis.names name
      by None low = refl
      by (Some name) low = numbers.text name low

  module _ (scenario : Scenario) (one : IsScenario (length sheet.basis.names) scenario) where
    abbrev commands : List Command
    commands = scenario.moves ++ sheet.asks

    both : AreSaid sheet.basis.names others number numbers calc (first_of sheet.basis) (first_of there) commands
    both = commands_both sheet.basis.names others number numbers calc commands (first_of sheet.basis) (first_of there) begin
        (All-append (IsCommand (length sheet.basis.names) 0) scenario.moves sheet.asks one.moves is.asks)

    split : renumbered_all number scenario.moves ++ asked ≡ renumbered_all number commands
    split = sym (map-append (renumbered number) scenario.moves sheet.asks)

    scenario_same : scenario_text calc there asked (renumbered_scenario number scenario) ≡ scenario_text calc sheet.basis sheet.asks scenario
    scenario_same =
        ap (λ (label : List ℕ). codes "scenario " ++ label ++ codes "\n" ++ scenario_lines calc there asked (renumbered_scenario number scenario)) (label_same scenario.name one.name)
        ∙ ap (λ (lines : List ℕ). codes "scenario " ++ label_text sheet.basis.names scenario.name ++ codes "\n" ++ lines)
        (ap (transcript (ordered calc) (first_of there)) split ∙ both.lines)

    computed_same : scenario_calls calc there asked (renumbered_scenario number scenario) ≡ scenario_calls calc sheet.basis sheet.asks scenario
    computed_same = ap (calls_of (ordered calc) (first_of there)) split ∙ both.calls

    shown_same : scenario_values calc there asked (renumbered_scenario number scenario) ≡ scenario_values calc sheet.basis sheet.asks scenario
    shown_same =
        let moved = commands_both sheet.basis.names others number numbers calc scenario.moves (first_of sheet.basis) (first_of there) begin one.moves in
        values_both sheet.basis.names others number numbers calc sheet.asks (after calc scenario.moves (first_of sheet.basis))
        (after calc (renumbered_all number scenario.moves) (first_of there)) moved.next is.asks

  texts_same : (scenarios : List Scenario) → All (IsScenario (length sheet.basis.names)) scenarios
      → scenario_texts calc there asked (renumbered_scenarios number scenarios) ≡ scenario_texts calc sheet.basis sheet.asks scenarios
  unfolding scenario_texts
  texts_same [] are = refl
  texts_same (scenario ∷ scenarios) are =
      ap (λ (l : List ℕ). l ++ scenario_texts calc there asked (renumbered_scenarios number scenarios))
      (scenario_same scenario (All-head (IsScenario (length sheet.basis.names)) scenario scenarios are))
      ∙ ap (λ (l : List ℕ). scenario_text calc sheet.basis sheet.asks scenario ++ l)
      (texts_same scenarios (All-tail (IsScenario (length sheet.basis.names)) scenario scenarios are))

  calls_same : (scenarios : List Scenario) → All (IsScenario (length sheet.basis.names)) scenarios
      → scenarios_calls calc there asked (renumbered_scenarios number scenarios) ≡ scenarios_calls calc sheet.basis sheet.asks scenarios
  unfolding scenarios_calls
  calls_same [] are = refl
  calls_same (scenario ∷ scenarios) are =
      ap (λ (l : List (ℕ × Bool)). l ++ scenarios_calls calc there asked (renumbered_scenarios number scenarios))
      (computed_same scenario (All-head (IsScenario (length sheet.basis.names)) scenario scenarios are))
      ∙ ap (λ (l : List (ℕ × Bool)). scenario_calls calc sheet.basis sheet.asks scenario ++ l)
      (calls_same scenarios (All-tail (IsScenario (length sheet.basis.names)) scenario scenarios are))

  worst_same : (k : ℕ) (scenarios : List Scenario) → All (IsScenario (length sheet.basis.names)) scenarios
      → Same sheet.basis.names others (worst_of (column k (rows_of calc there asked (renumbered_scenarios number scenarios))))
      (worst_of (column k (rows_of calc sheet.basis sheet.asks scenarios)))
  unfolding rows_of
  worst_same k [] are = tt
  worst_same k (scenario ∷ scenarios) are =
      let one = All-head (IsScenario (length sheet.basis.names)) scenario scenarios are in
      let rest = worst_same k scenarios (All-tail (IsScenario (length sheet.basis.names)) scenario scenarios are) in
      subst (λ (values : List (Option ℤ)). Same sheet.basis.names others
      (with_value (option_map number scenario.name) (slice_index_or values k None) (worst_of (column k (rows_of calc there asked (renumbered_scenarios number scenarios)))))
      (with_value scenario.name (slice_index_or (scenario_values calc sheet.basis sheet.asks scenario) k None) (worst_of (column k (rows_of calc sheet.basis sheet.asks scenarios)))))
      (sym (shown_same scenario one))
      (value_same sheet.basis.names others (option_map number scenario.name) scenario.name
      (slice_index_or (scenario_values calc sheet.basis sheet.asks scenario) k None) _ _ (label_same scenario.name one.name) rest)

  lines_same : (k : ℕ) (asks : List Command) → All (IsCommand (length sheet.basis.names) 0) asks
      → worst_lines others (rows_of calc there asked (renumbered_scenarios number sheet.scenarios)) k (renumbered_all number asks)
      ≡ worst_lines sheet.basis.names (rows_of calc sheet.basis sheet.asks sheet.scenarios) k asks
  unfolding worst_line worst_lines
  lines_same k [] known = refl
  lines_same k (ask ∷ asks) known =
      let asked_there = worst_lines others (rows_of calc there asked (renumbered_scenarios number sheet.scenarios)) (k + 1) (renumbered_all number asks) in
      let worst = text_same sheet.basis.names others _ _ (worst_same k sheet.scenarios is.scenarios) in
      ap (λ (name : List ℕ). (codes "worst " ++ name ++ codes " " ++ worst_text others (worst_of (column k (rows_of calc there asked (renumbered_scenarios number sheet.scenarios)))) ++ codes "\n") ++ asked_there)
      (ask_same ask (All-head (IsCommand (length sheet.basis.names) 0) ask asks known))
      ∙ ap (λ (text : List ℕ). (codes "worst " ++ asked_text sheet.basis.names (asked_name ask) ++ codes " " ++ text ++ codes "\n") ++ asked_there) worst
      ∙ ap (λ (l : List ℕ). worst_line sheet.basis.names (asked_name ask) (worst_of (column k (rows_of calc sheet.basis sheet.asks sheet.scenarios))) ++ l)
      (lines_same (k + 1) asks (All-tail (IsCommand (length sheet.basis.names) 0) ask asks known))

  -- A SHEET BY OTHER NUMBERS
  pub texts_among : sheet_texts calc (among others sheet) ≡ sheet_texts calc sheet
  texts_among = texts_same sheet.scenarios is.scenarios

  pub calls_among : sheet_calls calc (among others sheet) ≡ sheet_calls calc sheet
  calls_among = calls_same sheet.scenarios is.scenarios

  pub grid_among : sheet_grid calc (among others sheet) ≡ sheet_grid calc sheet
  grid_among =
      ap (λ (l : List ℕ). l ++ worst_lines others (rows_of calc there asked (renumbered_scenarios number sheet.scenarios)) 0 asked) texts_among
      ∙ ap (λ (l : List ℕ). sheet_texts calc sheet ++ l) (lines_same 0 sheet.asks is.asks)

  pub worst_among : (k : ℕ) → sheet_worst calc (among others sheet) k ≡ sheet_worst calc sheet k
  worst_among k = told_same sheet.basis.names others _ _ (worst_same k sheet.scenarios is.scenarios)

pub numbers_nothing : NumbersChangeNothing
numbers_nothing calc sheet one other is first second = record {
  grid = grid_among calc sheet one is first ∙ sym (grid_among calc sheet other is second);
  texts = texts_among calc sheet one is first ∙ sym (texts_among calc sheet other is second);
  calls = calls_among calc sheet one is first ∙ sym (calls_among calc sheet other is second);
}

-- ---- parts

module _ (calc : Calc) (basis : Basis) (asks : List Command) where
  texts_joined : (first second : List Scenario)
      → scenario_texts calc basis asks (first ++ second) ≡ scenario_texts calc basis asks first ++ scenario_texts calc basis asks second
  unfolding scenario_texts
  texts_joined [] second = refl
  texts_joined (scenario ∷ first) second =
      ap (λ (l : List ℕ). scenario_text calc basis asks scenario ++ l) (texts_joined first second)
      ∙ sym (append_assoc (scenario_text calc basis asks scenario) (scenario_texts calc basis asks first) (scenario_texts calc basis asks second))

  calls_joined : (first second : List Scenario)
      → scenarios_calls calc basis asks (first ++ second) ≡ scenarios_calls calc basis asks first ++ scenarios_calls calc basis asks second
  unfolding scenarios_calls
  calls_joined [] second = refl
  calls_joined (scenario ∷ first) second =
      ap (λ (l : List (ℕ × Bool)). scenario_calls calc basis asks scenario ++ l) (calls_joined first second)
      ∙ sym (append_assoc (scenario_calls calc basis asks scenario) (scenarios_calls calc basis asks first) (scenarios_calls calc basis asks second))

  columns_joined : (k : ℕ) (first second : List Scenario)
      → column k (rows_of calc basis asks (first ++ second)) ≡ column k (rows_of calc basis asks first) ++ column k (rows_of calc basis asks second)
  unfolding rows_of
  columns_joined k [] second = refl
  columns_joined k (scenario ∷ first) second =
      ap (λ (l : List (Option ℕ × Option ℤ)). (scenario.name, slice_index_or (scenario_values calc basis asks scenario) k None) ∷ l) (columns_joined k first second)

-- the less of two worst values, of equal ones the first
abbrev less : Option Worst → Option Worst → Option Worst
less None second = second
less (Some one) second = lower one second

lower_by : (a b c : Worst) (x y z : Bool) → int_le a.amount b.amount ≡ x → int_le b.amount c.amount ≡ y → int_le a.amount c.amount ≡ z
    → lower a (if y then Some b else Some c) ≡ less (if x then Some a else Some b) (Some c)
lower_by a b c true true true first second third = rw (first, third) refl
lower_by a b c true true false first second third = absurd (let not_so : int_le a.amount c.amount ≡ true = grind (arith, ints, first, second) in cc)
lower_by a b c true false z first second third = refl
lower_by a b c false true z first second third = rw (first, second) refl
lower_by a b c false false true first second third = absurd (let not_so : int_le a.amount c.amount ≡ false = grind (arith, ints, first, second) in cc)
lower_by a b c false false false first second third = rw (third, second) refl

lower_less : (a : Worst) (x y : Option Worst) → lower a (less x y) ≡ less (lower a x) y
lower_less a None y = refl
lower_less a (Some b) None = by (int_le a.amount b.amount)
  where
    by : (x : Bool) → (if x then Some a else Some b) ≡ less (if x then Some a else Some b) None
    by true = refl
    by false = refl
lower_less a (Some b) (Some c) = lower_by a b c (int_le a.amount b.amount) (int_le b.amount c.amount) (int_le a.amount c.amount) refl refl refl

worst_both : (xs ys : List (Option ℕ × Option ℤ)) → worst_of (xs ++ ys) ≡ less (worst_of xs) (worst_of ys)
worst_both [] ys = refl
worst_both ((name, None) ∷ xs) ys = worst_both xs ys
worst_both ((name, Some amount) ∷ xs) ys =
    ap (lower (record { name = name; amount = amount })) (worst_both xs ys)
    ∙ lower_less (record { name = name; amount = amount }) (worst_of xs) (worst_of ys)

-- what is not more than another is not changed by it
lower_twice : (m a : Worst) → int_le m.amount a.amount ≡ true → (y : Option Worst) → lower m y ≡ lower m (lower a y)
lower_twice m a low None = rw low refl
lower_twice m a low (Some c) = by (int_le a.amount c.amount) refl
  where
    by : (b : Bool) → int_le a.amount c.amount ≡ b → lower m (Some c) ≡ lower m (if b then Some a else Some c)
    by true is = let below : int_le m.amount c.amount ≡ true = grind (arith, ints, low, is) in rw (low, below) refl
    by false is = refl

-- the same scenario in front of both
less_twice : (a : Worst) (x y : Option Worst) → lower a (less x y) ≡ less (lower a x) (lower a y)
less_twice a None y = lower_twice a a (grind (arith, ints)) y
less_twice a (Some b) y = lower_less a (Some b) y ∙ by (int_le a.amount b.amount) refl
  where
    by : (x : Bool) → int_le a.amount b.amount ≡ x → less (if x then Some a else Some b) y ≡ less (if x then Some a else Some b) (lower a y)
    by true is = lower_twice a a (grind (arith, ints)) y
    by false is = lower_twice b a (grind (arith, ints, is)) y

head_twice : (name : Option ℕ) (amount : Option ℤ) (x y : Option Worst)
    → with_value name amount (less x y) ≡ less (with_value name amount x) (with_value name amount y)
head_twice name None x y = refl
head_twice name (Some amount) x y = less_twice (record { name = name; amount = amount }) x y

less_told : (names : List (List ℕ)) (x y : Option Worst) → told_worst names (less x y) ≡ less_of (told_worst names x) (told_worst names y)
less_told names None y = refl
less_told names (Some a) None = refl
less_told names (Some a) (Some b) = by (int_le a.amount b.amount)
  where
    by : (x : Bool) → told_worst names (if x then Some a else Some b) ≡ (if x then told_worst names (Some a) else told_worst names (Some b))
    by true = refl
    by false = refl

module _ (calc : Calc) (sheet : Sheet) (head : Scenario) (first second : List Scenario) where
  worst_parts : (k : ℕ) → sheet_worst calc (with_scenarios sheet (head ∷ first ++ second)) k
      ≡ less_of (sheet_worst calc (with_scenarios sheet (head ∷ first)) k) (sheet_worst calc (with_scenarios sheet (head ∷ second)) k)
  unfolding rows_of
  worst_parts k =
      let shown = slice_index_or (scenario_values calc sheet.basis sheet.asks head) k None in
      let one = column k (rows_of calc sheet.basis sheet.asks first) in
      let other = column k (rows_of calc sheet.basis sheet.asks second) in
      ap (λ (l : List (Option ℕ × Option ℤ)). told_worst sheet.basis.names (with_value head.name shown (worst_of l)))
      (columns_joined calc sheet.basis sheet.asks k first second)
      ∙ ap (λ (w : Option Worst). told_worst sheet.basis.names (with_value head.name shown w)) (worst_both one other)
      ∙ ap (told_worst sheet.basis.names) (head_twice head.name shown (worst_of one) (worst_of other))
      ∙ less_told sheet.basis.names (with_value head.name shown (worst_of one)) (with_value head.name shown (worst_of other))

-- A GRID CUT IN PARTS IS THE GRID
pub parts_make : PartsMakeTheGrid
parts_make calc sheet head first second whole one other is holds here there = record {
  texts = texts_among calc (with_scenarios sheet (head ∷ first ++ second)) whole is holds
      ∙ texts_joined calc sheet.basis sheet.asks (head ∷ first) second
      ∙ ap (λ (l : List ℕ). l ++ sheet_texts calc (with_scenarios sheet second)) (sym (texts_among calc (with_scenarios sheet (head ∷ first)) one in_one here))
      ∙ ap (λ (l : List ℕ). sheet_texts calc (among one (with_scenarios sheet (head ∷ first))) ++ l) (sym (texts_among calc (with_scenarios sheet second) other behind there));
  calls = calls_among calc (with_scenarios sheet (head ∷ first ++ second)) whole is holds
      ∙ calls_joined calc sheet.basis sheet.asks (head ∷ first) second
      ∙ ap (λ (l : List (ℕ × Bool)). l ++ sheet_calls calc (with_scenarios sheet second)) (sym (calls_among calc (with_scenarios sheet (head ∷ first)) one in_one here))
      ∙ ap (λ (l : List (ℕ × Bool)). sheet_calls calc (among one (with_scenarios sheet (head ∷ first))) ++ l) (sym (calls_among calc (with_scenarios sheet second) other behind there));
  worst = λ k. worst_among calc (with_scenarios sheet (head ∷ first ++ second)) whole is holds k
      ∙ worst_parts calc sheet head first second k
      ∙ ap (λ (w : Option (List ℕ × ℤ)). less_of w (sheet_worst calc (with_scenarios sheet (head ∷ second)) k)) (sym (worst_among calc (with_scenarios sheet (head ∷ first)) one in_one here k))
      ∙ ap (less_of (sheet_worst calc (among one (with_scenarios sheet (head ∷ first))) k)) (sym (worst_among calc (with_scenarios sheet (head ∷ second)) other in_other there k));
}
  where
    AreOf : List Scenario → Type 0
    AreOf scenarios = All (IsScenario (length sheet.basis.names)) scenarios

    of_these : (scenarios : List Scenario) → AreOf scenarios → IsSheet (with_scenarios sheet scenarios)
    of_these scenarios are = record { distinct = is.distinct; today = is.today; made = is.made; asks = is.asks; scenarios = are }

    head_is : IsScenario (length sheet.basis.names) head
    head_is = All-head (IsScenario (length sheet.basis.names)) head (first ++ second) is.scenarios

    both : (xs ys : List Scenario) → AreOf (xs ++ ys) → AreOf xs × AreOf ys
    both [] ys are = (All-nil (IsScenario (length sheet.basis.names)), are)
    both (x ∷ xs) ys are =
        let rest = both xs ys (All-tail (IsScenario (length sheet.basis.names)) x (xs ++ ys) are) in
        (All-cons (IsScenario (length sheet.basis.names)) x xs (All-head (IsScenario (length sheet.basis.names)) x (xs ++ ys) are) rest.0, rest.1)

    parts : AreOf first × AreOf second
    parts = both first second (All-tail (IsScenario (length sheet.basis.names)) head (first ++ second) is.scenarios)

    in_one : IsSheet (with_scenarios sheet (head ∷ first))
    in_one = of_these (head ∷ first) (All-cons (IsScenario (length sheet.basis.names)) head first head_is parts.0)

    in_other : IsSheet (with_scenarios sheet (head ∷ second))
    in_other = of_these (head ∷ second) (All-cons (IsScenario (length sheet.basis.names)) head second head_is parts.1)

    behind : IsSheet (with_scenarios sheet second)
    behind = of_these second parts.1
