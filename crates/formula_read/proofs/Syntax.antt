-- the reader of tokens is somewhere exactly after the fronts of formulas
use Rattle.std.proofs.Common.{◌≡◌, ◌≢◌, ℕ, zero, suc, ◌+◌, ◌-◌, ◌<◌, ◌≤◌, max, List, [], ◌∷◌, ◌++◌, Option, Some, None, refl, ap, sym, ◌∙◌, subst, append_assoc, arith, inl, inr}
use Rattle.std.specs.Prelude.{◌⊎◌}
use Rattle.std.proofs.lemmas.Bool.{cases_lt}
use Rattle.std.proofs.lemmas.List.{append-nil}
use Rattle.ss_base.specs.declared.types.Spot.{Spot}
use Rattle.ss_base.specs.declared.types.Span.{Span}
use Rattle.formula_tree.specs.declared.operators.PreOp.{PreOp}
use Rattle.formula_tree.specs.declared.operators.PreOp.TheVariants.{Plus, Minus}
use Rattle.formula_tree.specs.declared.operators.BinOp.{BinOp}
use Rattle.formula_tree.specs.declared.operators.BinOp.TheVariants.{Pow, Mul, Div, Add, Sub, Join, Eq, Ne, Lt, Le, Gt, Ge}
use Rattle.formula_tree.specs.declared.functions.Fun.{Fun}
use Rattle.formula_tree.specs.Names.{name_of}
use Rattle.formula_tree.specs.Tree.{Tree, Trees}
use Rattle.formula_tree.specs.Tree as tree
use Rattle.formula_tree.specs.Precedence.{precedence_of_operator}
use Rattle.formula_tree.specs.WellFormed.{IsFun}
use Rattle.formula_tree.specs.Tokens.{TokenValue, numeral, text, fault, cell, range, name, sign, opening, closing, semicolon}
use Rattle.formula_tree.specs.Grammar.{Derives, Arguments, Listed, operator_of_sign}
use Rattle.formula_tree.specs.Grammar as grammar
use Rattle.formula_read.proofs.Choices.{nothing, same}
use Rattle.formula_read.specs.declared.brackets.Bracket.{Bracket}
use Rattle.formula_read.specs.declared.brackets.Bracket.TheVariants.{Group, Call}
use Rattle.formula_read.specs.Classes.{token_class}
use Rattle.formula_read.specs.Places.{Place, head, wants, has, named, begins, operand, advance, advance_all, IsKnownToken, AreKnownTokens, IsExpression, AreFormulaTokens, IsFormulaFront}

-- from where a call's arguments begin, an expression is read as from where one is wanted
derives_begins : {p n : ℕ} {ts : List TokenValue} {t : Tree Spot Span} → Derives p ts t n → (ds : List Bracket) (more : List TokenValue) →
    advance_all (Some (begins ds)) (ts ++ more) ≡ advance_all (Some (wants (Call ∷ ds))) (ts ++ more)
derives_begins (grammar.tighter d) ds more = derives_begins d ds more
derives_begins (grammar.binary {op = op} {ss = ss} {ts = ts} d e) ds more =
    let assoc = append_assoc ss (sign op ∷ ts) more in
    ap (advance_all (Some (begins ds))) assoc ∙ (derives_begins d ds (sign op ∷ ts ++ more) ∙ ap (advance_all (Some (wants (Call ∷ ds)))) (sym assoc))
derives_begins (grammar.prefix {op = Plus} d) ds more = refl
derives_begins (grammar.prefix {op = Minus} d) ds more = refl
derives_begins grammar.numeral ds more = refl
derives_begins grammar.text ds more = refl
derives_begins grammar.fault ds more = refl
derives_begins grammar.cell ds more = refl
derives_begins grammar.range ds more = refl
derives_begins (grammar.brackets d) ds more = refl
derives_begins (grammar.call f a) ds more = refl

mutual
  pub derives_read : {p n : ℕ} {ts : List TokenValue} {t : Tree Spot Span} → Derives p ts t n → (ds : List Bracket) (more : List TokenValue) →
      advance_all (Some (wants ds)) (ts ++ more) ≡ advance_all (Some (has ds)) more
  derives_read (grammar.tighter d) ds more = derives_read d ds more
  derives_read (grammar.binary {op = op} {ss = ss} {ts = ts} d e) ds more =
      ap (advance_all (Some (wants ds))) (append_assoc ss (sign op ∷ ts) more) ∙ (derives_read d ds (sign op ∷ ts ++ more) ∙ derives_read e ds more)
  derives_read (grammar.prefix {op = Plus} d) ds more = derives_read d ds more
  derives_read (grammar.prefix {op = Minus} d) ds more = derives_read d ds more
  derives_read grammar.numeral ds more = refl
  derives_read grammar.text ds more = refl
  derives_read grammar.fault ds more = refl
  derives_read grammar.cell ds more = refl
  derives_read grammar.range ds more = refl
  derives_read (grammar.brackets {ts = ts} d) ds more =
      ap (advance_all (Some (wants (Group ∷ ds)))) (append_assoc ts (closing ∷ []) more) ∙ derives_read d (Group ∷ ds) (closing ∷ more)
  derives_read (grammar.call {ts = ts} f a) ds more =
      ap (advance_all (Some (begins ds))) (append_assoc ts (closing ∷ []) more) ∙ arguments_read a ds more

  arguments_read : {n : ℕ} {ts : List TokenValue} {args : Trees Spot Span} → Arguments ts args n → (ds : List Bracket) (more : List TokenValue) →
      advance_all (Some (begins ds)) (ts ++ closing ∷ more) ≡ advance_all (Some (has ds)) more
  arguments_read grammar.empty ds more = refl
  arguments_read (grammar.some (grammar.last d)) ds more = derives_begins d ds (closing ∷ more) ∙ derives_read d (Call ∷ ds) (closing ∷ more)
  arguments_read (grammar.some (grammar.more {ts = ts} {us = us} d l)) ds more =
      ap (advance_all (Some (begins ds))) (append_assoc ts (semicolon ∷ us) (closing ∷ more))
      ∙ (derives_begins d ds (semicolon ∷ us ++ closing ∷ more) ∙ (derives_read d (Call ∷ ds) (semicolon ∷ us ++ closing ∷ more) ∙ listed_read l ds more))

  listed_read : {n : ℕ} {ts : List TokenValue} {args : Trees Spot Span} → Listed ts args n → (ds : List Bracket) (more : List TokenValue) →
      advance_all (Some (wants (Call ∷ ds))) (ts ++ closing ∷ more) ≡ advance_all (Some (has ds)) more
  listed_read (grammar.last d) ds more = derives_read d (Call ∷ ds) (closing ∷ more)
  listed_read (grammar.more {ts = ts} {us = us} d l) ds more =
      ap (advance_all (Some (wants (Call ∷ ds)))) (append_assoc ts (semicolon ∷ us) (closing ∷ more))
      ∙ (derives_read d (Call ∷ ds) (semicolon ∷ us ++ closing ∷ more) ∙ listed_read l ds more)

pub advance_all-append : (p : Option Place) (xs ys : List TokenValue) → advance_all p (xs ++ ys) ≡ advance_all (advance_all p xs) ys
advance_all-append None xs ys = refl
advance_all-append (Some p) [] ys = refl
advance_all-append (Some p) (x ∷ xs) ys = advance_all-append (advance p x) xs ys

pub formula_read : (ts : List TokenValue) → AreFormulaTokens ts → advance_all (Some head) ts ≡ Some (has [])
formula_read ts (us, e, (t, n, d)) = ap (advance_all (Some head)) (e ∙ ap (λ (l : List TokenValue). sign Eq ∷ l) (sym (append-nil us))) ∙ derives_read d [] []

pub front_is_read : (ts : List TokenValue) → IsFormulaFront ts → advance_all (Some head) ts ≢ None
front_is_read ts (rest, f) e =
    absurd (let clash : None ≡ Some (has []) = sym (advance_all-append (Some head) ts rest ∙ ap (λ p. advance_all p rest) e) ∙ formula_read (ts ++ rest) f in cc)

-- An expression, and an operand with its signs.
abbrev IsOperand : List TokenValue → Type 0
IsOperand ts = (t : Tree Spot Span) × (n : ℕ) × Derives 6 ts t n

pub most_precedence : (op : BinOp) → precedence_of_operator op ≤ 5
most_precedence Pow = omega arith
most_precedence Mul = omega arith
most_precedence Div = omega arith
most_precedence Add = omega arith
most_precedence Sub = omega arith
most_precedence Join = omega arith
most_precedence Eq = omega arith
most_precedence Ne = omega arith
most_precedence Lt = omega arith
most_precedence Le = omega arith
most_precedence Gt = omega arith
most_precedence Ge = omega arith

pub least_precedence : (op : BinOp) → 1 ≤ precedence_of_operator op
least_precedence Pow = omega arith
least_precedence Mul = omega arith
least_precedence Div = omega arith
least_precedence Add = omega arith
least_precedence Sub = omega arith
least_precedence Join = omega arith
least_precedence Eq = omega arith
least_precedence Ne = omega arith
least_precedence Lt = omega arith
least_precedence Le = omega arith
least_precedence Gt = omega arith
least_precedence Ge = omega arith

-- what binds more tightly does for a looser place
module _ {n : ℕ} {ts : List TokenValue} {t : Tree Spot Span} where
  looser_by : (k p q : ℕ) → q ≡ k + p → Derives q ts t n → Derives p ts t n
  looser_by zero p q e d = subst (λ (m : ℕ). Derives m ts t n) (let f : q ≡ p = omega arith in f) d
  looser_by (suc k) p q e d = grammar.tighter (looser_by k (suc p) q (omega arith) d)

  pub looser : (p q : ℕ) → p ≤ q → Derives q ts t n → Derives p ts t n
  looser p q h d = looser_by (q - p) p q (omega arith) d

-- an expression goes on with an operator and an operand
joined : (op : BinOp) {m n : ℕ} {ss ts : List TokenValue} {s t : Tree Spot Span} (p : ℕ) → precedence_of_operator op ≡ p → Derives p ss s m → Derives 6 ts t n →
    (u : Tree Spot Span) × (k : ℕ) × Derives p (ss ++ sign op ∷ ts) u k
joined op {m} {n} {ss} {ts} {s} {t} p level d e =
    let most = most_precedence op in (
      tree.bin op s t,
      suc (max m n),
      subst (λ (q : ℕ). Derives q (ss ++ sign op ∷ ts) (tree.bin op s t) (suc (max m n))) level
          (grammar.binary {op = op} (subst (λ (q : ℕ). Derives q ss s m) (sym level) d) (looser (suc (precedence_of_operator op)) 6 (omega arith) e)),
    )

attached : {p m : ℕ} {ss : List TokenValue} {s : Tree Spot Span} → Derives p ss s m → (op : BinOp) {n : ℕ} {ts : List TokenValue} {t : Tree Spot Span} → Derives 6 ts t n →
    p ≤ precedence_of_operator op → (u : Tree Spot Span) × (k : ℕ) × Derives p (ss ++ sign op ∷ ts) u k
attached {p} (grammar.tighter {ts = ss} d) op {ts = ts} e h =
    by_precedence (cases_lt p (precedence_of_operator op)) (λ h. attached d op e h) (λ level. joined op p level (grammar.tighter d) e)
  where
    by_precedence : ((p < precedence_of_operator op) ⊎ (precedence_of_operator op ≤ p)) →
        (suc p ≤ precedence_of_operator op → (u : Tree Spot Span) × (k : ℕ) × Derives (suc p) (ss ++ sign op ∷ ts) u k) →
        (precedence_of_operator op ≡ p → (u : Tree Spot Span) × (k : ℕ) × Derives p (ss ++ sign op ∷ ts) u k) → (u : Tree Spot Span) × (k : ℕ) × Derives p (ss ++ sign op ∷ ts) u k
    by_precedence (inl below) again level = let (u, k, f) = again (omega arith) in (u, k, grammar.tighter f)
    by_precedence (inr same) again level = level (omega arith)
attached (grammar.binary {m = m} {op = o} {ss = ss} {ts = us} {s = s} d f) op {ts = ts} e h =
    by_precedence (cases_lt (precedence_of_operator o) (precedence_of_operator op)) (λ h. attached f op e h)
    (λ (u : Tree Spot Span) (k : ℕ) g. grammar.binary {op = o} d g) (λ level. joined op (precedence_of_operator o) level (grammar.binary {op = o} d f) e)
  where
    by_precedence : ((precedence_of_operator o < precedence_of_operator op) ⊎ (precedence_of_operator op ≤ precedence_of_operator o)) →
        (suc (precedence_of_operator o) ≤ precedence_of_operator op → (u : Tree Spot Span) × (k : ℕ) × Derives (suc (precedence_of_operator o)) (us ++ sign op ∷ ts) u k) →
        ((u : Tree Spot Span) (k : ℕ) → Derives (suc (precedence_of_operator o)) (us ++ sign op ∷ ts) u k → Derives (precedence_of_operator o) (ss ++ sign o ∷ (us ++ sign op ∷ ts)) (tree.bin o s u) (suc (max m k))) →
        (precedence_of_operator op ≡ precedence_of_operator o → (u : Tree Spot Span) × (k : ℕ) × Derives (precedence_of_operator o) ((ss ++ sign o ∷ us) ++ sign op ∷ ts) u k) →
        (u : Tree Spot Span) × (k : ℕ) × Derives (precedence_of_operator o) ((ss ++ sign o ∷ us) ++ sign op ∷ ts) u k
    by_precedence (inl below) again whole level =
        let (u, k, g) = again (omega arith) in
        (tree.bin o s u, suc (max m k), subst (λ (l : List TokenValue). Derives (precedence_of_operator o) l (tree.bin o s u) (suc (max m k))) (sym (append_assoc ss (sign o ∷ us) (sign op ∷ ts))) (whole u k g))
    by_precedence (inr same) again whole level = level (omega arith)
attached d op e h = absurd (let most = most_precedence op in omega arith)

-- What stands before an operand: with any operand it is an expression.
abbrev Begun : List TokenValue → Type 0
Begun q = (ts : List TokenValue) → IsOperand ts → IsExpression (q ++ ts)

begun_none : Begun []
begun_none ts (t, n, d) = (t, n, looser 1 6 (omega arith) d)

begun_sign : (s : List TokenValue) (op : BinOp) → IsExpression s → Begun (s ++ sign op ∷ [])
begun_sign s op (t, n, d) ts (u, m, e) =
    let (v, k, f) = attached d op e (least_precedence op) in
    (v, k, subst (λ (l : List TokenValue). Derives 1 l v k) (sym (append_assoc s (sign op ∷ []) ts)) f)

begun_prefix : (q : List TokenValue) (op : PreOp) → Begun q → Begun (q ++ sign (operator_of_sign op) ∷ [])
begun_prefix q op b ts (u, m, e) =
    subst IsExpression (sym (append_assoc q (sign (operator_of_sign op) ∷ []) ts)) (b (sign (operator_of_sign op) ∷ ts) (tree.pre op u, suc m, grammar.prefix {op = op} e))

-- arguments that others may follow
abbrev IsListed : List TokenValue → Type 0
IsListed us = (args : Trees Spot Span) × (n : ℕ) × Listed us args n

abbrev Parts : List TokenValue → Type 0
Parts q = (us : List TokenValue) → IsListed us → IsListed (q ++ us)

parts_none : Parts []
parts_none us l = l

parts_more : (q s : List TokenValue) → Parts q → IsExpression s → Parts (q ++ (s ++ semicolon ∷ []))
parts_more q s parts (t, n, d) us (args, m, l) =
    subst IsListed (sym (append_assoc q (s ++ semicolon ∷ []) us ∙ ap (λ (l : List TokenValue). q ++ l) (append_assoc s (semicolon ∷ []) us)))
    (parts (s ++ semicolon ∷ us) (tree.more t args, max n m, grammar.more d l))

-- what stands before the innermost bracket's content
abbrev Opened : List Bracket → List TokenValue → Type 0
Opened [] o = o ≡ []
Opened (Group ∷ ds) o = (p : List TokenValue) × (q : List TokenValue) × Opened ds p × Begun q × (o ≡ p ++ (q ++ opening ∷ []))
Opened (Call ∷ ds) o =
    (p : List TokenValue) × (q : List TokenValue) × (fun : Fun) × (a : List TokenValue) × Opened ds p × Begun q × IsFun fun × Parts a × (o ≡ p ++ (q ++ (name (name_of fun) ∷ opening ∷ a)))

-- what was read, by where the reader stands
abbrev Stands : Place → List TokenValue → Type 0
Stands head ts = ts ≡ []
Stands (wants ds) ts = (o : List TokenValue) × (q : List TokenValue) × Opened ds o × Begun q × (ts ≡ sign Eq ∷ (o ++ q))
Stands (has ds) ts = (o : List TokenValue) × (s : List TokenValue) × Opened ds o × IsExpression s × (ts ≡ sign Eq ∷ (o ++ s))
Stands (named ds) ts = (o : List TokenValue) × (q : List TokenValue) × (fun : Fun) × Opened ds o × Begun q × IsFun fun × (ts ≡ sign Eq ∷ (o ++ (q ++ name (name_of fun) ∷ [])))
Stands (begins ds) ts = (o : List TokenValue) × (q : List TokenValue) × (fun : Fun) × Opened ds o × Begun q × IsFun fun × (ts ≡ sign Eq ∷ (o ++ (q ++ (name (name_of fun) ∷ opening ∷ []))))

-- an operand that stands by itself
by_itself : {ts : List TokenValue} {t : Tree Spot Span} {n : ℕ} → Derives 7 ts t n → IsOperand ts
by_itself {ts} {t} {n} d = (t, n, grammar.tighter d)

bracketed : (s : List TokenValue) → IsExpression s → IsOperand (opening ∷ s ++ closing ∷ [])
bracketed s (t, n, d) = by_itself (grammar.brackets d)

called : (fun : Fun) (us : List TokenValue) → IsFun fun → IsListed us → IsOperand (name (name_of fun) ∷ opening ∷ us ++ closing ∷ [])
called fun us f (args, n, l) = by_itself (grammar.call f (grammar.some l))

called_empty : (fun : Fun) → IsFun fun → IsOperand (name (name_of fun) ∷ opening ∷ closing ∷ [])
called_empty fun f = by_itself (grammar.call {ts = []} f grammar.empty)

listed_last : (s : List TokenValue) → IsExpression s → IsListed s
listed_last s (t, n, d) = (tree.more t tree.none, n, grammar.last d)

-- the innermost bracket closed
closes : (d : Bracket) (ds : List Bracket) (o s : List TokenValue) → Opened (d ∷ ds) o → IsExpression s → (p : List TokenValue) × (r : List TokenValue) × Opened ds p × IsExpression r × ((o ++ s) ++ closing ∷ [] ≡ p ++ r)
closes Group ds o s (p, q, opened, begun, e) whole =
    (p, q ++ (opening ∷ s ++ closing ∷ []), opened, begun (opening ∷ s ++ closing ∷ []) (bracketed s whole), (λ i. (e i ++ s) ++ closing ∷ []) ∙ regroup p q s)
  where
    regroup : (p q s : List TokenValue) → ((p ++ (q ++ opening ∷ [])) ++ s) ++ closing ∷ [] ≡ p ++ (q ++ (opening ∷ s ++ closing ∷ []))
    regroup p q s = simp append_assoc
closes Call ds o s (p, q, fun, a, opened, begun, f, parts, e) whole =
    let us = a ++ s in (
      p,
      q ++ (name (name_of fun) ∷ opening ∷ us ++ closing ∷ []),
      opened,
      begun (name (name_of fun) ∷ opening ∷ us ++ closing ∷ []) (called fun us f (parts s (listed_last s whole))),
      (λ i. (e i ++ s) ++ closing ∷ []) ∙ regroup p q a s (name (name_of fun)),
    )
  where
    regroup : (p q a s : List TokenValue) (n : TokenValue) → ((p ++ (q ++ (n ∷ opening ∷ a))) ++ s) ++ closing ∷ [] ≡ p ++ (q ++ (n ∷ opening ∷ (a ++ s) ++ closing ∷ []))
    regroup p q a s n = simp append_assoc

-- all brackets closed
complete : (ds : List Bracket) (o s : List TokenValue) → Opened ds o → IsExpression s → (rest : List TokenValue) × IsExpression ((o ++ s) ++ rest)
complete [] o s e whole = ([], subst IsExpression (sym ((λ i. (e i ++ s) ++ []) ∙ append-nil s)) whole)
complete (d ∷ ds) o s opened whole =
    let (p, r, outer, inner, e) = closes d ds o s opened whole in
    let (rest, f) = complete ds p r outer inner in
    (closing ∷ rest, subst IsExpression (sym (sym (append_assoc (o ++ s) (closing ∷ []) rest) ∙ (λ i. e i ++ rest))) f)

stands_front : (p : Place) (ts : List TokenValue) → Stands p ts → IsFormulaFront ts
stands_front head ts e = (sign Eq ∷ numeral 1 ∷ [], (numeral 1 ∷ [], (λ i. e i ++ sign Eq ∷ numeral 1 ∷ []), begun_none (numeral 1 ∷ []) (by_itself grammar.numeral)))
stands_front (has ds) ts (o, s, opened, whole, e) =
    let (rest, f) = complete ds o s opened whole in
    (rest, ((o ++ s) ++ rest, (λ i. e i ++ rest), f))
stands_front (wants ds) ts (o, q, opened, begun, e) =
    let (rest, f) = complete ds o (q ++ numeral 1 ∷ []) opened (begun (numeral 1 ∷ []) (by_itself grammar.numeral)) in
    (numeral 1 ∷ rest, ((o ++ q) ++ numeral 1 ∷ rest, (λ i. e i ++ numeral 1 ∷ rest), subst IsExpression (regroup o q rest) f))
  where
    regroup : (o q rest : List TokenValue) → (o ++ (q ++ numeral 1 ∷ [])) ++ rest ≡ (o ++ q) ++ numeral 1 ∷ rest
    regroup o q rest = simp append_assoc
stands_front (named ds) ts (o, q, fun, opened, begun, f, e) =
    let (rest, g) = complete ds o (q ++ (name (name_of fun) ∷ opening ∷ closing ∷ [])) opened (begun (name (name_of fun) ∷ opening ∷ closing ∷ []) (called_empty fun f)) in
    (opening ∷ closing ∷ rest, ((o ++ (q ++ name (name_of fun) ∷ [])) ++ opening ∷ closing ∷ rest, (λ i. e i ++ opening ∷ closing ∷ rest), subst IsExpression (regroup o q rest (name (name_of fun))) g))
  where
    regroup : (o q rest : List TokenValue) (n : TokenValue) → (o ++ (q ++ (n ∷ opening ∷ closing ∷ []))) ++ rest ≡ (o ++ (q ++ n ∷ [])) ++ opening ∷ closing ∷ rest
    regroup o q rest n = simp append_assoc
stands_front (begins ds) ts (o, q, fun, opened, begun, f, e) =
    let (rest, g) = complete ds o (q ++ (name (name_of fun) ∷ opening ∷ closing ∷ [])) opened (begun (name (name_of fun) ∷ opening ∷ closing ∷ []) (called_empty fun f)) in
    (closing ∷ rest, ((o ++ (q ++ (name (name_of fun) ∷ opening ∷ []))) ++ closing ∷ rest, (λ i. e i ++ closing ∷ rest), subst IsExpression (regroup o q rest (name (name_of fun))) g))
  where
    regroup : (o q rest : List TokenValue) (n : TokenValue) → (o ++ (q ++ (n ∷ opening ∷ closing ∷ []))) ++ rest ≡ (o ++ (q ++ (n ∷ opening ∷ []))) ++ closing ∷ rest
    regroup o q rest n = simp append_assoc

-- one token more
module _ (ts : List TokenValue) (t : TokenValue) (next : Place) where
  stands_next : {p : Place} → Some p ≡ Some next → Stands p (ts ++ t ∷ []) → Stands next (ts ++ t ∷ [])
  stands_next m h = subst (λ (p : Place). Stands p (ts ++ t ∷ [])) (same m) h

  -- behind what stands before an operand
  behind_both : (o q : List TokenValue) → ts ≡ sign Eq ∷ (o ++ q) → ts ++ t ∷ [] ≡ sign Eq ∷ (o ++ (q ++ t ∷ []))
  behind_both o q e = (λ i. e i ++ t ∷ []) ∙ ap (λ (l : List TokenValue). sign Eq ∷ l) (append_assoc o q (t ∷ []))

  leaf_goes : (ds : List Bracket) (o q : List TokenValue) → Opened ds o → Begun q → ts ≡ sign Eq ∷ (o ++ q) → IsOperand (t ∷ []) → Some (has ds) ≡ Some next → Stands next (ts ++ t ∷ [])
  leaf_goes ds o q opened begun e leaf m = stands_next m (o, q ++ t ∷ [], opened, begun (t ∷ []) leaf, behind_both o q e)

operand_goes : (ts : List TokenValue) (t : TokenValue) (next : Place) (ds : List Bracket) (o q : List TokenValue) → Opened ds o → Begun q → ts ≡ sign Eq ∷ (o ++ q) → IsKnownToken t →
    operand ds (token_class t) ≡ Some next → Stands next (ts ++ t ∷ [])
operand_goes ts (numeral n) next ds o q opened begun e h m = leaf_goes ts (numeral n) next ds o q opened begun e (by_itself grammar.numeral) m
operand_goes ts (text b) next ds o q opened begun e h m = leaf_goes ts (text b) next ds o q opened begun e (by_itself grammar.text) m
operand_goes ts (fault b) next ds o q opened begun e h m = leaf_goes ts (fault b) next ds o q opened begun e (by_itself grammar.fault) m
operand_goes ts (cell b) next ds o q opened begun e h m = leaf_goes ts (cell b) next ds o q opened begun e (by_itself grammar.cell) m
operand_goes ts (range b) next ds o q opened begun e h m = leaf_goes ts (range b) next ds o q opened begun e (by_itself grammar.range) m
operand_goes ts (name n) next ds o q opened begun e (fun, f, same_name) m =
    stands_next ts (name n) next m (o, q, fun, opened, begun, f, behind_both ts (name n) next o q e ∙ (λ i. sign Eq ∷ (o ++ (q ++ name (sym same_name i) ∷ []))))
operand_goes ts (sign Add) next ds o q opened begun e h m =
    stands_next ts (sign Add) next m (o, q ++ sign Add ∷ [], opened, begun_prefix q Plus begun, behind_both ts (sign Add) next o q e)
operand_goes ts (sign Sub) next ds o q opened begun e h m =
    stands_next ts (sign Sub) next m (o, q ++ sign Sub ∷ [], opened, begun_prefix q Minus begun, behind_both ts (sign Sub) next o q e)
operand_goes ts opening next ds o q opened begun e h m =
    stands_next ts opening next m (
      o ++ (q ++ opening ∷ []),
      [],
      (o, q, opened, begun, refl),
      begun_none,
      behind_both ts opening next o q e ∙ ap (λ (l : List TokenValue). sign Eq ∷ l) (sym (append-nil (o ++ (q ++ opening ∷ [])))),
    )
operand_goes ts t next ds o q opened begun e h m = nothing m

has_goes : (ts : List TokenValue) (t : TokenValue) (next : Place) (ds : List Bracket) → Stands (has ds) ts → advance (has ds) t ≡ Some next → Stands next (ts ++ t ∷ [])
has_goes ts (sign op) next ds (o, s, opened, whole, e) m =
    stands_next ts (sign op) next m (o, s ++ sign op ∷ [], opened, begun_sign s op whole, behind_both ts (sign op) next o s e)
has_goes ts closing next [] h m = nothing m
has_goes ts closing next (d ∷ ds) (o, s, opened, whole, e) m =
    let (p, r, outer, inner, f) = closes d ds o s opened whole in
    stands_next ts closing next m (p, r, outer, inner, (λ i. e i ++ closing ∷ []) ∙ ap (λ (l : List TokenValue). sign Eq ∷ l) f)
has_goes ts semicolon next [] h m = nothing m
has_goes ts semicolon next (Group ∷ ds) h m = nothing m
has_goes ts semicolon next (Call ∷ ds) (o, s, (p, q, fun, a, opened, begun, f, parts, g), whole, e) m =
    let args = a ++ (s ++ semicolon ∷ []) in
    stands_next ts semicolon next m (
      p ++ (q ++ (name (name_of fun) ∷ opening ∷ args)),
      [],
      (p, q, fun, args, opened, begun, f, parts_more a s parts whole, refl),
      begun_none,
      (λ i. e i ++ semicolon ∷ []) ∙ ((λ i. sign Eq ∷ ((g i ++ s) ++ semicolon ∷ [])) ∙ ap (λ (l : List TokenValue). sign Eq ∷ l) (regroup p q a s (name (name_of fun)))),
    )
  where
    regroup : (p q a s : List TokenValue) (n : TokenValue) → ((p ++ (q ++ (n ∷ opening ∷ a))) ++ s) ++ semicolon ∷ [] ≡ (p ++ (q ++ (n ∷ opening ∷ (a ++ (s ++ semicolon ∷ []))))) ++ []
    regroup p q a s n = simp (append_assoc, append-nil)
has_goes ts t next ds h m = nothing m

named_goes : (ts : List TokenValue) (t : TokenValue) (next : Place) (ds : List Bracket) → Stands (named ds) ts → advance (named ds) t ≡ Some next → Stands next (ts ++ t ∷ [])
named_goes ts opening next ds (o, q, fun, opened, begun, f, e) m =
    stands_next ts opening next m (
      o,
      q,
      fun,
      opened,
      begun,
      f,
      behind_both ts opening next o (q ++ name (name_of fun) ∷ []) e ∙ ap (λ (l : List TokenValue). sign Eq ∷ (o ++ l)) (append_assoc q (name (name_of fun) ∷ []) (opening ∷ [])),
    )
named_goes ts t next ds h m = nothing m

first_goes : (ts : List TokenValue) (t : TokenValue) (next : Place) (ds : List Bracket) → Stands (begins ds) ts → IsKnownToken t → operand (Call ∷ ds) (token_class t) ≡ Some next → Stands next (ts ++ t ∷ [])
first_goes ts t next ds (o, q, fun, opened, begun, f, e) h m =
    let inner = o ++ (q ++ (name (name_of fun) ∷ opening ∷ [])) in
    operand_goes ts t next (Call ∷ ds) inner [] (o, q, fun, [], opened, begun, f, parts_none, refl) begun_none (e ∙ ap (λ (l : List TokenValue). sign Eq ∷ l) (sym (append-nil inner))) h m

begins_goes : (ts : List TokenValue) (t : TokenValue) (next : Place) (ds : List Bracket) → Stands (begins ds) ts → IsKnownToken t → advance (begins ds) t ≡ Some next → Stands next (ts ++ t ∷ [])
begins_goes ts closing next ds (o, q, fun, opened, begun, f, e) h m =
    let n = name (name_of fun) in
    stands_next ts closing next m (
      o,
      q ++ (n ∷ opening ∷ closing ∷ []),
      opened,
      begun (n ∷ opening ∷ closing ∷ []) (called_empty fun f),
      behind_both ts closing next o (q ++ (n ∷ opening ∷ [])) e ∙ ap (λ (l : List TokenValue). sign Eq ∷ (o ++ l)) (append_assoc q (n ∷ opening ∷ []) (closing ∷ [])),
    )
begins_goes ts t next ds s h m = first_goes ts t next ds s h m

head_goes : (ts : List TokenValue) (t : TokenValue) (next : Place) → Stands head ts → advance head t ≡ Some next → Stands next (ts ++ t ∷ [])
head_goes ts (sign Eq) next e m = stands_next ts (sign Eq) next m ([], [], refl, begun_none, (λ i. e i ++ sign Eq ∷ []))
head_goes ts t next e m = nothing m

place_goes : (p : Place) (ts : List TokenValue) (t : TokenValue) (next : Place) → Stands p ts → IsKnownToken t → advance p t ≡ Some next → Stands next (ts ++ t ∷ [])
place_goes head ts t next s h m = head_goes ts t next s m
place_goes (wants ds) ts t next (o, q, opened, begun, e) h m = operand_goes ts t next ds o q opened begun e h m
place_goes (has ds) ts t next s h m = has_goes ts t next ds s m
place_goes (named ds) ts t next s h m = named_goes ts t next ds s m
place_goes (begins ds) ts t next s h m = begins_goes ts t next ds s h m

place_runs : (p : Place) (ts us : List TokenValue) (last : Place) → Stands p ts → AreKnownTokens us → advance_all (Some p) us ≡ Some last → Stands last (ts ++ us)
place_runs p ts [] last s h m = subst (λ (q : Place). Stands q (ts ++ [])) (same m) (subst (λ (l : List TokenValue). Stands p l) (sym (append-nil ts)) s)
place_runs p ts (t ∷ us) last s h m = by_move (advance p t) refl m (λ next s' m'. place_runs next (ts ++ t ∷ []) us last s' h.1 m')
  where
    by_move : (o : Option Place) → advance p t ≡ o → advance_all o us ≡ Some last →
        ((next : Place) → Stands next (ts ++ t ∷ []) → advance_all (Some next) us ≡ Some last → Stands last ((ts ++ t ∷ []) ++ us)) → Stands last (ts ++ t ∷ us)
    by_move None k m rest = nothing m
    by_move (Some next) k m rest = subst (λ (l : List TokenValue). Stands last l) (append_assoc ts (t ∷ []) us) (rest next (place_goes p ts t next s h.0 k) m)

pub read_is_front : (ts : List TokenValue) → AreKnownTokens ts → advance_all (Some head) ts ≢ None → IsFormulaFront ts
read_is_front ts h some = by_end (advance_all (Some head) ts) refl
  where
    by_end : (o : Option Place) → advance_all (Some head) ts ≡ o → IsFormulaFront ts
    by_end None m = absurd (some m)
    by_end (Some last) m = stands_front last ts (place_runs head [] ts last refl h m)

pub read_is_formula : (ts : List TokenValue) → AreKnownTokens ts → advance_all (Some head) ts ≡ Some (has []) → AreFormulaTokens ts
read_is_formula ts h m =
    let (o, s, empty, whole, e) = place_runs head [] ts (has []) refl h m in
    (s, e ∙ (λ i. sign Eq ∷ (empty i ++ s)), whole)
