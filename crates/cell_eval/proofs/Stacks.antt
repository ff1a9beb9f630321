-- a stack whose uppermost stands last, seen with the uppermost first
use Rattle.std.proofs.Common.{◌≡◌, ℕ, ◌-◌, ◌≤◌, List, ◌++◌, length, take, drop, reverse, ap, sym, ◌∙◌, arith}
use Rattle.std.proofs.lemmas.List.{length-reverse, length-drop, reverse-append, take-append-drop}
use Rattle.std.proofs.Math.Seq.{drop-append_seam}

pub cut_below : {A : Type 0} (xs : List A) (n : ℕ) → n ≤ length xs → reverse (take (length xs - n) xs) ≡ drop n (reverse xs)
cut_below xs n few =
    let top = reverse (drop (length xs - n) xs) in
    let long : length top ≡ n = omega (arith, length-reverse (drop (length xs - n) xs), length-drop (length xs - n) xs) in
    let parts : reverse xs ≡ top ++ reverse (take (length xs - n) xs) =
    ap reverse (sym (take-append-drop (length xs - n) xs)) ∙ reverse-append (take (length xs - n) xs) (drop (length xs - n) xs) in
    sym ((λ i. drop (sym long i) (parts i)) ∙ drop-append_seam top (reverse (take (length xs - n) xs)))
