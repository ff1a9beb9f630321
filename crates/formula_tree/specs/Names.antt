-- the names of functions
use Rattle.std.specs.Prelude.{ℕ, List, [], ◌∷◌, codes, Bool, true, false}
use Rattle.formula_tree.specs.declared.functions.Fun.{Fun}
use Rattle.formula_tree.specs.declared.functions.Fun.TheVariants.{Sum, Count, Counta, Min, Max, And, Or, Abs, Sign, Mod, Quotient, If, Not, Iferror, Iserror, Isna, Isblank, Isnumber, Istext, Na, True, False, Len, Left, Right, Mid, Concatenate, Exact, Choose, Index, Match, Vlookup, Countif, Sumif, Sumproduct, Rows, Columns, Unknown}

-- the name of a function as formulas spell it
abbrev pub name_of : Fun → List ℕ
name_of Sum = codes "SUM"
name_of Count = codes "COUNT"
name_of Counta = codes "COUNTA"
name_of Min = codes "MIN"
name_of Max = codes "MAX"
name_of And = codes "AND"
name_of Or = codes "OR"
name_of Abs = codes "ABS"
name_of Sign = codes "SIGN"
name_of Mod = codes "MOD"
name_of Quotient = codes "QUOTIENT"
name_of If = codes "IF"
name_of Not = codes "NOT"
name_of Iferror = codes "IFERROR"
name_of Iserror = codes "ISERROR"
name_of Isna = codes "ISNA"
name_of Isblank = codes "ISBLANK"
name_of Isnumber = codes "ISNUMBER"
name_of Istext = codes "ISTEXT"
name_of Na = codes "NA"
name_of True = codes "TRUE"
name_of False = codes "FALSE"
name_of Len = codes "LEN"
name_of Left = codes "LEFT"
name_of Right = codes "RIGHT"
name_of Mid = codes "MID"
name_of Concatenate = codes "CONCATENATE"
name_of Exact = codes "EXACT"
name_of Choose = codes "CHOOSE"
name_of Index = codes "INDEX"
name_of Match = codes "MATCH"
name_of Vlookup = codes "VLOOKUP"
name_of Countif = codes "COUNTIF"
name_of Sumif = codes "SUMIF"
name_of Sumproduct = codes "SUMPRODUCT"
name_of Rows = codes "ROWS"
name_of Columns = codes "COLUMNS"
name_of (Unknown name) = name

-- one of the functions that have a meaning
abbrev pub is_known : Fun → Bool
is_known (Unknown name) = false
is_known fun = true

-- all of them
abbrev pub known_functions : List Fun
known_functions = Sum ∷ Count ∷ Counta ∷ Min ∷ Max ∷ And ∷ Or ∷ Abs ∷ Sign ∷ Mod ∷ Quotient ∷ If ∷ Not ∷ Iferror ∷ Iserror ∷ Isna ∷ Isblank ∷ Isnumber ∷ Istext ∷ Na ∷ True ∷ False ∷ Len ∷ Left ∷ Right ∷ Mid ∷ Concatenate ∷ Exact ∷ Choose ∷ Index ∷ Match ∷ Vlookup ∷ Countif ∷ Sumif ∷ Sumproduct ∷ Rows ∷ Columns ∷ []

-- one of those that give a number of numbers: totals, counts and arithmetic
abbrev pub is_numeric : Fun → Bool
is_numeric Sum = true
is_numeric Count = true
is_numeric Counta = true
is_numeric Min = true
is_numeric Max = true
is_numeric Abs = true
is_numeric Sign = true
is_numeric Mod = true
is_numeric Quotient = true
is_numeric Countif = true
is_numeric Sumif = true
is_numeric Sumproduct = true
is_numeric fun = false
