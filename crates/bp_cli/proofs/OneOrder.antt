-- Words give one order.
use Rattle.std.proofs.Common.{◌≡◌, ◌∙◌, inl, inr, refl, sym, ap, subst, ℕ, Bool, true, false, List, Option, Some, None}
use Rattle.std.specs.Prelude.{codes}
use Rattle.std.specs.Str.{bytes_eq}
use Rattle.std.specs.Str.Parse.{digits_value, without_leading_plus}
use Rattle.clap.specs.Words.{Row, Text, first_of}
use Rattle.bp_theory.specs.declared.Limits.{Limits}
use Rattle.cli_orders.specs.CommandLine.{most_steps, most_leaf, most_visits, most_seed, most_size, most_workers, most_cuts}
use Rattle.cli_orders.specs.Orders.{HasNumber, MayHaveNumber, HasCount, ArePlaced, HasValues, IsOrderOf, AreRefused}
use Rattle.cli_orders.specs.declared.order.Order.{Order}
use Rattle.cli_orders.specs.declared.order.SolveOrder.{SolveOrder}
use Rattle.cli_orders.specs.declared.order.CheckOrder.{CheckOrder}
use Rattle.cli_orders.specs.declared.order.Watching.{Watching}
use Rattle.cli_orders.specs.declared.order.MergeOrder.{MergeOrder}
use Rattle.cli_orders.specs.declared.order.Order.TheVariants.{Solve, Check, Show, Gen, Demo, Detect, Propose, Merge, Migrate}

-- a value that is there is one
one_value : (given : Option Text) (t u : Text) → given ≡ Some t → given ≡ Some u → t ≡ u
one_value given t u a b = cc

one_given : (given : Option Text) (t u : Option Text) → given ≡ t → given ≡ u → t ≡ u
one_given given t u a b = sym a ∙ b

-- a value means one number
one_number : (given : Option Text) (low high m n : ℕ) → HasNumber given low high m → HasNumber given low high n → m ≡ n
one_number given low high m n a b =
    a.2.value ∙ ap (λ (t : Text). digits_value 10 (without_leading_plus t)) (one_value given a.0 b.0 a.1 b.1) ∙ sym b.2.value

there_is : (given : Option Text) (low high n : ℕ) → given ≡ None → HasNumber given low high n → ⊥
there_is given low high n none has = absurd (cc)

may_be_one : (given : Option Text) (low high : ℕ) (m n : Option ℕ) → MayHaveNumber given low high m → MayHaveNumber given low high n → m ≡ n
may_be_one given low high None None a b = refl
may_be_one given low high None (Some n) a b = absurd (there_is given low high n a b)
may_be_one given low high (Some m) None a b = absurd (there_is given low high m b a)
may_be_one given low high (Some m) (Some n) a b = ap (λ (k : ℕ). Some k) (one_number given low high m n a b)

one_count : (given : Option Text) (high m n : ℕ) → HasCount given high m → HasCount given high n → m ≡ n
one_count None high m n a b = a ∙ sym b
one_count (Some text) high m n a b = a.value ∙ sym b.value

-- two names of a subcommand
apart : {A : Type 0} (name s t : Text) → name ≡ s → name ≡ t → bytes_eq s s ≡ true → bytes_eq s t ≡ false → A
apart name s t a b same other =
    let both : true ≡ false = sym same ∙ ap (λ (u : Text). bytes_eq s u) (sym a ∙ b) ∙ other in
    absurd (cc)

-- what watches a search, word by word
abbrev watching_of : (time gap log stop : Option Text) → Watching
watching_of time gap log stop = record { time = time; gap = gap; log = log; stop = stop }

watchings_of : (a b c d e f g h : Option Text) → a ≡ b → c ≡ d → e ≡ f → g ≡ h → watching_of a c e g ≡ watching_of b d f h
watchings_of a b c d e f g h p q r s = rw (p, q, r, s) refl

watchings : (a b : Watching) → a.time ≡ b.time → a.gap ≡ b.gap → a.log ≡ b.log → a.stop ≡ b.stop → a ≡ b
watchings a b p q r s = watchings_of a.time b.time a.gap b.gap a.log b.log a.stop b.stop p q r s

-- the words of an order to solve, one by one
abbrev solve_of : (lp : Text) (dec : Option Text) (steps : Option ℕ) (cert from : Option Text) (leaf workers order : Option ℕ) (cuts : ℕ) (limits : Limits) (watching : Watching) → Order
solve_of lp dec steps cert from leaf workers order cuts limits watching = Solve (record {
  lp = lp;
  dec = dec;
  steps = steps;
  cert = cert;
  from = from;
  leaf = leaf;
  workers = workers;
  order = order;
  cuts = cuts;
  limits = limits;
  watching = watching;
})

solves_of : (a b : Text) (c d : Option Text) (m n : Option ℕ) (e f g h : Option Text) (i j k l x y : Option ℕ) (few many : ℕ) (under over : Limits) (seen watched : Watching) → a ≡ b → c ≡ d → m ≡ n → e ≡ f → g ≡ h
    → i ≡ j → k ≡ l → x ≡ y → few ≡ many → under ≡ over → seen ≡ watched
    → solve_of a c m e g i k x few under seen ≡ solve_of b d n f h j l y many over watched
solves_of a b c d m n e f g h i j k l x y few many under over seen watched p q r s t u v w z same eyes = rw (p, q, r, s, t, u, v, w, z, same, eyes) refl

solves : (a b : SolveOrder) → a.lp ≡ b.lp → a.dec ≡ b.dec → a.steps ≡ b.steps → a.cert ≡ b.cert → a.from ≡ b.from → a.leaf ≡ b.leaf
    → a.workers ≡ b.workers → a.order ≡ b.order → a.cuts ≡ b.cuts → a.limits ≡ b.limits → a.watching ≡ b.watching → Solve a ≡ Solve b
solves a b p q r s t u v w z same eyes =
    solves_of a.lp b.lp a.dec b.dec a.steps b.steps a.cert b.cert a.from b.from a.leaf b.leaf a.workers b.workers a.order b.order a.cuts b.cuts a.limits b.limits a.watching b.watching p q r s t u v w z same eyes

-- those of an order to check
abbrev check_of : (lp cert : Text) (dec : Option Text) (visits : Option ℕ) (limits : Limits) → Order
check_of lp cert dec visits limits = Check (record { lp = lp; cert = cert; dec = dec; visits = visits; limits = limits })

checks_of : (a b c d : Text) (e f : Option Text) (i k : Option ℕ) (l m : Limits) → a ≡ b → c ≡ d → e ≡ f → i ≡ k → l ≡ m → check_of a c e i l ≡ check_of b d f k m
checks_of a b c d e f i k l m p q r s t = rw (p, q, r, s, t) refl

checks : (a b : CheckOrder) → a.lp ≡ b.lp → a.cert ≡ b.cert → a.dec ≡ b.dec → a.visits ≡ b.visits → a.limits ≡ b.limits → Check a ≡ Check b
checks a b p q r s t = checks_of a.lp b.lp a.cert b.cert a.dec b.dec a.visits b.visits a.limits b.limits p q r s t

shows : (a b : Text) (c d : Option Text) (i j m n : Bool) (k l : Limits) → a ≡ b → c ≡ d → i ≡ j → m ≡ n → k ≡ l → Show a c i m k ≡ Show b d j n l
shows a b c d i j m n k l p q r s t = rw (p, q, r, s, t) refl

makes : (i j k l : ℕ) (a b c d : Text) → i ≡ j → k ≡ l → a ≡ b → c ≡ d → Gen i k a c ≡ Gen j l b d
makes i j k l a b c d p q r s = rw (p, q, r, s) refl

demonstrates : (i j k l : ℕ) → i ≡ j → k ≡ l → Demo i k ≡ Demo j l
demonstrates i j k l p q = rw (p, q) refl

detects : (a b c d e f : Text) (k l : Limits) → a ≡ b → c ≡ d → e ≡ f → k ≡ l → Detect a c e k ≡ Detect b d f l
detects a b c d e f k l p q r s = rw (p, q, r, s) refl

proposes : (a b c d : Text) (k l : Limits) → a ≡ b → c ≡ d → k ≡ l → Propose a c k ≡ Propose b d l
proposes a b c d k l p q r = rw (p, q, r) refl

-- those of an order to merge
abbrev merge_of : (lp first second new : Text) (dec : Option Text) (limits : Limits) → Order
merge_of lp first second new dec limits = Merge (record { lp = lp; first = first; second = second; new = new; dec = dec; limits = limits })

merges_of : (a b c d e f g h : Text) (i k : Option Text) (l m : Limits) → a ≡ b → c ≡ d → e ≡ f → g ≡ h → i ≡ k → l ≡ m → merge_of a c e g i l ≡ merge_of b d f h k m
merges_of a b c d e f g h i k l m p q r s t u = rw (p, q, r, s, t, u) refl

merges : (a b : MergeOrder) → a.lp ≡ b.lp → a.first ≡ b.first → a.second ≡ b.second → a.new ≡ b.new → a.dec ≡ b.dec → a.limits ≡ b.limits → Merge a ≡ Merge b
merges a b p q r s t u = merges_of a.lp b.lp a.first b.first a.second b.second a.new b.new a.dec b.dec a.limits b.limits p q r s t u

migrates : (a b c d e f : Text) (i k : Option Text) (l m : Limits) → a ≡ b → c ≡ d → e ≡ f → i ≡ k → l ≡ m → Migrate a c e i l ≡ Migrate b d f k m
migrates a b c d e f i k l m p q r s t = rw (p, q, r, s, t) refl

-- a subcommand with its rows states one order
pub one_stated : (name : Text) (rows : List Row) (o p : Order) → HasValues name rows o → HasValues name rows p → o ≡ p
one_stated name rows (Solve a) (Solve b) x y =
    solves a b (one_value (first_of (codes "lp") rows) a.lp b.lp x.1 y.1) (one_given (first_of (codes "dec") rows) a.dec b.dec x.2 y.2)
    (may_be_one (first_of (codes "steps") rows) 0 most_steps a.steps b.steps x.3 y.3) (one_given (first_of (codes "cert") rows) a.cert b.cert x.4 y.4)
    (one_given (first_of (codes "from") rows) a.from b.from x.5 y.5) (may_be_one (first_of (codes "leaf") rows) 1 most_leaf a.leaf b.leaf x.6 y.6)
    (may_be_one (first_of (codes "workers") rows) 1 most_workers a.workers b.workers x.7 y.7)
    (may_be_one (first_of (codes "order") rows) 0 most_seed a.order b.order x.8 y.8)
    (one_count (first_of (codes "cuts") rows) most_cuts a.cuts b.cuts x.10 y.10) (sym x.11 ∙ y.11)
    (watchings a.watching b.watching (one_given (first_of (codes "time") rows) a.watching.time b.watching.time x.12.time y.12.time)
    (one_given (first_of (codes "gap") rows) a.watching.gap b.watching.gap x.12.gap y.12.gap)
    (one_given (first_of (codes "log") rows) a.watching.log b.watching.log x.12.log y.12.log)
    (one_given (first_of (codes "stop") rows) a.watching.stop b.watching.stop x.12.stop y.12.stop))
one_stated name rows (Solve a) (Check e) x y = apart name (codes "solve") (codes "check") x.0 y.0 refl refl
one_stated name rows (Solve a) (Show e f g h s) x y = apart name (codes "solve") (codes "show") x.0 y.0 refl refl
one_stated name rows (Solve a) (Gen e f g h) x y = apart name (codes "solve") (codes "gen") x.0 y.0 refl refl
one_stated name rows (Solve a) (Demo e f) x y = apart name (codes "solve") (codes "demo") x.0 y.0 refl refl
one_stated name rows (Solve a) (Detect e f g h) x y = apart name (codes "solve") (codes "detect") x.0 y.0 refl refl
one_stated name rows (Solve a) (Propose e f g) x y = apart name (codes "solve") (codes "propose") x.0 y.0 refl refl
one_stated name rows (Solve a) (Merge e) x y = apart name (codes "solve") (codes "merge") x.0 y.0 refl refl
one_stated name rows (Solve a) (Migrate e f g h j) x y = apart name (codes "solve") (codes "migrate") x.0 y.0 refl refl
one_stated name rows (Check a) (Solve e) x y = apart name (codes "check") (codes "solve") x.0 y.0 refl refl
one_stated name rows (Check a) (Check b) x y =
    checks a b (one_value (first_of (codes "lp") rows) a.lp b.lp x.1 y.1) (one_value (first_of (codes "cert") rows) a.cert b.cert x.2 y.2)
    (one_given (first_of (codes "dec") rows) a.dec b.dec x.3 y.3) (may_be_one (first_of (codes "visits") rows) 0 most_visits a.visits b.visits x.4 y.4) (sym x.5 ∙ y.5)
one_stated name rows (Check a) (Show e f g h s) x y = apart name (codes "check") (codes "show") x.0 y.0 refl refl
one_stated name rows (Check a) (Gen e f g h) x y = apart name (codes "check") (codes "gen") x.0 y.0 refl refl
one_stated name rows (Check a) (Demo e f) x y = apart name (codes "check") (codes "demo") x.0 y.0 refl refl
one_stated name rows (Check a) (Detect e f g h) x y = apart name (codes "check") (codes "detect") x.0 y.0 refl refl
one_stated name rows (Check a) (Propose e f g) x y = apart name (codes "check") (codes "propose") x.0 y.0 refl refl
one_stated name rows (Check a) (Merge e) x y = apart name (codes "check") (codes "merge") x.0 y.0 refl refl
one_stated name rows (Check a) (Migrate e f g h j) x y = apart name (codes "check") (codes "migrate") x.0 y.0 refl refl
one_stated name rows (Show a b c d s) (Solve e) x y = apart name (codes "show") (codes "solve") x.0 y.0 refl refl
one_stated name rows (Show a b c d s) (Check e) x y = apart name (codes "show") (codes "check") x.0 y.0 refl refl
one_stated name rows (Show a b c d s) (Show e f g h t) x y =
    shows a e b f c g d h s t (one_value (first_of (codes "lp") rows) a e x.1 y.1) (one_given (first_of (codes "dec") rows) b f x.2 y.2)
    (sym x.3 ∙ y.3) (sym x.4 ∙ y.4) (sym x.5 ∙ y.5)
one_stated name rows (Show a b c d s) (Gen e f g h) x y = apart name (codes "show") (codes "gen") x.0 y.0 refl refl
one_stated name rows (Show a b c d s) (Demo e f) x y = apart name (codes "show") (codes "demo") x.0 y.0 refl refl
one_stated name rows (Show a b c d s) (Detect e f g h) x y = apart name (codes "show") (codes "detect") x.0 y.0 refl refl
one_stated name rows (Show a b c d s) (Propose e f g) x y = apart name (codes "show") (codes "propose") x.0 y.0 refl refl
one_stated name rows (Show a b c d s) (Merge e) x y = apart name (codes "show") (codes "merge") x.0 y.0 refl refl
one_stated name rows (Show a b c d s) (Migrate e f g h j) x y = apart name (codes "show") (codes "migrate") x.0 y.0 refl refl
one_stated name rows (Gen a b c d) (Solve e) x y = apart name (codes "gen") (codes "solve") x.0 y.0 refl refl
one_stated name rows (Gen a b c d) (Check e) x y = apart name (codes "gen") (codes "check") x.0 y.0 refl refl
one_stated name rows (Gen a b c d) (Show e f g h s) x y = apart name (codes "gen") (codes "show") x.0 y.0 refl refl
one_stated name rows (Gen a b c d) (Gen e f g h) x y =
    makes a e b f c g d h (one_number (first_of (codes "seed") rows) 0 most_seed a e x.1 y.1) (one_number (first_of (codes "size") rows) 1 most_size b f x.2 y.2)
    (one_value (first_of (codes "lp") rows) c g x.3 y.3) (one_value (first_of (codes "dec") rows) d h x.4 y.4)
one_stated name rows (Gen a b c d) (Demo e f) x y = apart name (codes "gen") (codes "demo") x.0 y.0 refl refl
one_stated name rows (Gen a b c d) (Detect e f g h) x y = apart name (codes "gen") (codes "detect") x.0 y.0 refl refl
one_stated name rows (Gen a b c d) (Propose e f g) x y = apart name (codes "gen") (codes "propose") x.0 y.0 refl refl
one_stated name rows (Gen a b c d) (Merge e) x y = apart name (codes "gen") (codes "merge") x.0 y.0 refl refl
one_stated name rows (Gen a b c d) (Migrate e f g h j) x y = apart name (codes "gen") (codes "migrate") x.0 y.0 refl refl
one_stated name rows (Demo a b) (Solve e) x y = apart name (codes "demo") (codes "solve") x.0 y.0 refl refl
one_stated name rows (Demo a b) (Check e) x y = apart name (codes "demo") (codes "check") x.0 y.0 refl refl
one_stated name rows (Demo a b) (Show e f g h s) x y = apart name (codes "demo") (codes "show") x.0 y.0 refl refl
one_stated name rows (Demo a b) (Gen e f g h) x y = apart name (codes "demo") (codes "gen") x.0 y.0 refl refl
one_stated name rows (Demo a b) (Demo e f) x y =
    demonstrates a e b f (one_number (first_of (codes "seed") rows) 0 most_seed a e x.1 y.1) (one_number (first_of (codes "size") rows) 1 most_size b f x.2 y.2)
one_stated name rows (Demo a b) (Detect e f g h) x y = apart name (codes "demo") (codes "detect") x.0 y.0 refl refl
one_stated name rows (Demo a b) (Propose e f g) x y = apart name (codes "demo") (codes "propose") x.0 y.0 refl refl
one_stated name rows (Demo a b) (Merge e) x y = apart name (codes "demo") (codes "merge") x.0 y.0 refl refl
one_stated name rows (Demo a b) (Migrate e f g h j) x y = apart name (codes "demo") (codes "migrate") x.0 y.0 refl refl
one_stated name rows (Detect a b c d) (Solve e) x y = apart name (codes "detect") (codes "solve") x.0 y.0 refl refl
one_stated name rows (Detect a b c d) (Check e) x y = apart name (codes "detect") (codes "check") x.0 y.0 refl refl
one_stated name rows (Detect a b c d) (Show e f g h s) x y = apart name (codes "detect") (codes "show") x.0 y.0 refl refl
one_stated name rows (Detect a b c d) (Gen e f g h) x y = apart name (codes "detect") (codes "gen") x.0 y.0 refl refl
one_stated name rows (Detect a b c d) (Demo e f) x y = apart name (codes "detect") (codes "demo") x.0 y.0 refl refl
one_stated name rows (Detect a b c d) (Detect e f g h) x y =
    detects a e b f c g d h (one_value (first_of (codes "lp") rows) a e x.1 y.1) (one_value (first_of (codes "rows") rows) b f x.2 y.2)
    (one_value (first_of (codes "dec") rows) c g x.3 y.3) (sym x.4 ∙ y.4)
one_stated name rows (Detect a b c d) (Propose e f g) x y = apart name (codes "detect") (codes "propose") x.0 y.0 refl refl
one_stated name rows (Detect a b c d) (Merge e) x y = apart name (codes "detect") (codes "merge") x.0 y.0 refl refl
one_stated name rows (Detect a b c d) (Migrate e f g h j) x y = apart name (codes "detect") (codes "migrate") x.0 y.0 refl refl
one_stated name rows (Propose a b c) (Solve e) x y = apart name (codes "propose") (codes "solve") x.0 y.0 refl refl
one_stated name rows (Propose a b c) (Check e) x y = apart name (codes "propose") (codes "check") x.0 y.0 refl refl
one_stated name rows (Propose a b c) (Show e f g h s) x y = apart name (codes "propose") (codes "show") x.0 y.0 refl refl
one_stated name rows (Propose a b c) (Gen e f g h) x y = apart name (codes "propose") (codes "gen") x.0 y.0 refl refl
one_stated name rows (Propose a b c) (Demo e f) x y = apart name (codes "propose") (codes "demo") x.0 y.0 refl refl
one_stated name rows (Propose a b c) (Detect e f g h) x y = apart name (codes "propose") (codes "detect") x.0 y.0 refl refl
one_stated name rows (Propose a b c) (Propose e f g) x y =
    proposes a e b f c g (one_value (first_of (codes "lp") rows) a e x.1 y.1) (one_value (first_of (codes "dec") rows) b f x.2 y.2) (sym x.3 ∙ y.3)
one_stated name rows (Propose a b c) (Merge e) x y = apart name (codes "propose") (codes "merge") x.0 y.0 refl refl
one_stated name rows (Propose a b c) (Migrate e f g h j) x y = apart name (codes "propose") (codes "migrate") x.0 y.0 refl refl
one_stated name rows (Merge a) (Solve e) x y = apart name (codes "merge") (codes "solve") x.0 y.0 refl refl
one_stated name rows (Merge a) (Check e) x y = apart name (codes "merge") (codes "check") x.0 y.0 refl refl
one_stated name rows (Merge a) (Show e f g h s) x y = apart name (codes "merge") (codes "show") x.0 y.0 refl refl
one_stated name rows (Merge a) (Gen e f g h) x y = apart name (codes "merge") (codes "gen") x.0 y.0 refl refl
one_stated name rows (Merge a) (Demo e f) x y = apart name (codes "merge") (codes "demo") x.0 y.0 refl refl
one_stated name rows (Merge a) (Detect e f g h) x y = apart name (codes "merge") (codes "detect") x.0 y.0 refl refl
one_stated name rows (Merge a) (Propose e f g) x y = apart name (codes "merge") (codes "propose") x.0 y.0 refl refl
one_stated name rows (Merge a) (Merge b) x y =
    merges a b (one_value (first_of (codes "lp") rows) a.lp b.lp x.1 y.1) (one_value (first_of (codes "first") rows) a.first b.first x.2 y.2)
    (one_value (first_of (codes "second") rows) a.second b.second x.3 y.3) (one_value (first_of (codes "new") rows) a.new b.new x.4 y.4) (sym x.5 ∙ y.5) (sym x.6 ∙ y.6)
one_stated name rows (Merge a) (Migrate e f g h j) x y = apart name (codes "merge") (codes "migrate") x.0 y.0 refl refl
one_stated name rows (Migrate a b c d i) (Solve e) x y = apart name (codes "migrate") (codes "solve") x.0 y.0 refl refl
one_stated name rows (Migrate a b c d i) (Check e) x y = apart name (codes "migrate") (codes "check") x.0 y.0 refl refl
one_stated name rows (Migrate a b c d i) (Show e f g h s) x y = apart name (codes "migrate") (codes "show") x.0 y.0 refl refl
one_stated name rows (Migrate a b c d i) (Gen e f g h) x y = apart name (codes "migrate") (codes "gen") x.0 y.0 refl refl
one_stated name rows (Migrate a b c d i) (Demo e f) x y = apart name (codes "migrate") (codes "demo") x.0 y.0 refl refl
one_stated name rows (Migrate a b c d i) (Detect e f g h) x y = apart name (codes "migrate") (codes "detect") x.0 y.0 refl refl
one_stated name rows (Migrate a b c d i) (Propose e f g) x y = apart name (codes "migrate") (codes "propose") x.0 y.0 refl refl
one_stated name rows (Migrate a b c d i) (Merge e) x y = apart name (codes "migrate") (codes "merge") x.0 y.0 refl refl
one_stated name rows (Migrate a b c d i) (Migrate e f g h j) x y =
    migrates a e b f c g d h i j (one_value (first_of (codes "lp") rows) a e x.1 y.1) (one_value (first_of (codes "cert") rows) b f x.2 y.2)
    (one_value (first_of (codes "new") rows) c g x.3 y.3) (sym x.4 ∙ y.4) (sym x.5 ∙ y.5)

-- what is met is met with one name and rows
one_met : (met : Option (Text × List Row)) (p q : Text × List Row) → met ≡ Some p → met ≡ Some q → p ≡ q
one_met met p q a b = cc

-- words give one order
pub one_order : (words : List Text) (o p : Order) → IsOrderOf words o → IsOrderOf words p → o ≡ p
one_order words o p x y =
    let same : (x.stated.name, x.stated.rows) ≡ (y.stated.name, y.stated.rows) =
    one_met _ (x.stated.name, x.stated.rows) (y.stated.name, y.stated.rows) x.stated.subcommand y.stated.subcommand in
    one_stated y.stated.name y.stated.rows o p (subst (λ (s : Text × List Row). HasValues s.0 s.1 o) same x.stated.values) y.stated.values

-- the words of an order to solve go together
solve_is_placed : (rows : List Row) (order : Order) → HasValues (codes "solve") rows order → ArePlaced rows
solve_is_placed rows (Solve a) has = has.9
solve_is_placed rows (Check a) has = apart (codes "solve") (codes "solve") (codes "check") refl has.0 refl refl
solve_is_placed rows (Show a b c d s) has = apart (codes "solve") (codes "solve") (codes "show") refl has.0 refl refl
solve_is_placed rows (Gen a b c d) has = apart (codes "solve") (codes "solve") (codes "gen") refl has.0 refl refl
solve_is_placed rows (Demo a b) has = apart (codes "solve") (codes "solve") (codes "demo") refl has.0 refl refl
solve_is_placed rows (Detect a b c d) has = apart (codes "solve") (codes "solve") (codes "detect") refl has.0 refl refl
solve_is_placed rows (Propose a b c) has = apart (codes "solve") (codes "solve") (codes "propose") refl has.0 refl refl
solve_is_placed rows (Merge a) has = apart (codes "solve") (codes "solve") (codes "merge") refl has.0 refl refl
solve_is_placed rows (Migrate a b c d i) has = apart (codes "solve") (codes "solve") (codes "migrate") refl has.0 refl refl

-- words that are refused give no order
pub not_both : (words : List Text) (order : Order) → AreRefused words → IsOrderOf words order → ⊥
not_both words order (inl fault) is = fault is.taken
not_both words order (inr astray) is =
    let same : (is.stated.name, is.stated.rows) ≡ (codes "solve", astray.0) =
    one_met _ (is.stated.name, is.stated.rows) (codes "solve", astray.0) is.stated.subcommand astray.1 in
    astray.2 (solve_is_placed astray.0 order (subst (λ (s : Text × List Row). HasValues s.0 s.1 order) same is.stated.values))

-- an order with its parts as other values that are the same
pub as_solve : (order : Order) (given : SolveOrder) (a : Text) (b c d : Option Text) → order ≡ Solve given → a ≡ given.lp → b ≡ given.dec → c ≡ given.cert
    → d ≡ given.from → Solve (record given { lp = a; dec = b; cert = c; from = d }) ≡ order
as_solve order given a b c d is p q r s = solves (record given { lp = a; dec = b; cert = c; from = d }) given p q refl r s refl refl refl refl refl refl ∙ sym is

pub as_check : (order : Order) (given : CheckOrder) (a b : Text) (c : Option Text) → order ≡ Check given → a ≡ given.lp → b ≡ given.cert → c ≡ given.dec
    → Check (record given { lp = a; cert = b; dec = c }) ≡ order
as_check order given a b c is p q r = checks (record given { lp = a; cert = b; dec = c }) given p q r refl refl ∙ sym is

pub as_show : (order : Order) (a b : Text) (c d : Option Text) (i k : Bool) (limits : Limits) → order ≡ Show b d i k limits → a ≡ b → c ≡ d → Show a c i k limits ≡ order
as_show order a b c d i k limits is p q = shows a b c d i i k k limits limits p q refl refl refl ∙ sym is

pub as_gen : (order : Order) (i k : ℕ) (a b c d : Text) → order ≡ Gen i k b d → a ≡ b → c ≡ d → Gen i k a c ≡ order
as_gen order i k a b c d is p q = makes i i k k a b c d refl refl p q ∙ sym is

pub as_detect : (order : Order) (a b c d e f : Text) (limits : Limits) → order ≡ Detect b d f limits → a ≡ b → c ≡ d → e ≡ f → Detect a c e limits ≡ order
as_detect order a b c d e f limits is p q r = detects a b c d e f limits limits p q r refl ∙ sym is

pub as_propose : (order : Order) (a b c d : Text) (limits : Limits) → order ≡ Propose b d limits → a ≡ b → c ≡ d → Propose a c limits ≡ order
as_propose order a b c d limits is p q = proposes a b c d limits limits p q refl ∙ sym is

pub as_merge : (order : Order) (given : MergeOrder) (a b c d : Text) (e : Option Text) → order ≡ Merge given → a ≡ given.lp → b ≡ given.first → c ≡ given.second
    → d ≡ given.new → e ≡ given.dec → Merge (record { lp = a; first = b; second = c; new = d; dec = e; limits = given.limits }) ≡ order
as_merge order given a b c d e is p q r s t = merges (record { lp = a; first = b; second = c; new = d; dec = e; limits = given.limits }) given p q r s t refl ∙ sym is

pub as_migrate : (order : Order) (a b c d e f : Text) (i k : Option Text) (limits : Limits) → order ≡ Migrate b d f k limits → a ≡ b → c ≡ d → e ≡ f → i ≡ k → Migrate a c e i limits ≡ order
as_migrate order a b c d e f i k limits is p q r s = migrates a b c d e f i k limits limits p q r s refl ∙ sym is
