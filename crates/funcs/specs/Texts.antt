-- The functions of texts.
use Rattle.std.specs.Prelude.{ℕ, pos, ◌-◌, bytes_eq, List, length, take, drop, map, flat_map, Result, Ok}
use Rattle.ss_base.specs.declared.types.CalcErr.{CalcErr}
use Rattle.sheet_value.specs.declared.value.Value.{Value}
use Rattle.sheet_value.specs.Values.{text_value}
use Rattle.sheet_value.specs.Environment.{Environment}
use Rattle.funcs.specs.declared.arg.Arg.{Arg}
use Rattle.funcs.specs.Steps.{and_then, all_of}
use Rattle.funcs.specs.Numbers.{number_value, truth, byte_count, place}
use Rattle.funcs.specs.Args.{one, two, three, one_or_two, one_or_more, number, number_or_one, text}

-- LEN: the number of bytes
abbrev pub len_of : Environment → List Arg → Result Value CalcErr
len_of E args = and_then (one args) (λ a. and_then (text E a) (λ t. number_value (pos (length t))))

-- a text, and how many of its bytes are wanted, 1 when left out
abbrev pub text_and_count : Environment → List Arg → Result (List ℕ × ℕ) CalcErr
text_and_count E args =
    and_then (one_or_two args) (λ p. and_then (text E p.0) (λ t. and_then (number_or_one E p.1) (λ n. and_then (byte_count n) (λ k. Ok (t, k)))))

-- LEFT and RIGHT: the first or last n bytes, all where n is greater
abbrev pub left_of : Environment → List Arg → Result Value CalcErr
left_of E args = and_then (text_and_count E args) (λ p. Ok (text_value (take p.1 p.0)))

abbrev pub right_of : Environment → List Arg → Result Value CalcErr
right_of E args = and_then (text_and_count E args) (λ p. Ok (text_value (drop (length p.0 - p.1) p.0)))

-- MID: up to n bytes from the s-th on, empty past the end
abbrev pub mid_of : Environment → List Arg → Result Value CalcErr
mid_of E args =
    and_then (three args) (λ p. and_then (text E p.0) (λ t. and_then (number E p.1) (λ s. and_then (number E p.2) (λ n.
    and_then (place s) (λ k. and_then (byte_count n) (λ m. Ok (text_value (take m (drop k t)))))))))

-- CONCATENATE: all joined
abbrev pub concatenate_of : Environment → List Arg → Result Value CalcErr
concatenate_of E args = and_then (one_or_more args) (λ as_given. and_then (all_of (map (λ a. text E a) as_given)) (λ ts. Ok (text_value (flat_map (λ t. t) ts))))

-- EXACT: 1 where the texts are equal, else 0
abbrev pub exact_of : Environment → List Arg → Result Value CalcErr
exact_of E args = and_then (two args) (λ p. and_then (text E p.0) (λ s. and_then (text E p.1) (λ t. Ok (truth (bytes_eq s t)))))
