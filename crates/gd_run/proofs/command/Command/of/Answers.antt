use Rattle.std.proofs.Common.{arith, rules, ◌≡◌, ap, map, option_map, [], ◌∷◌}
use Rattle.std.specs.String.{string_bytes}
use Rattle.gd_run.proofs.Worded.{five_words, six_words}
use Rattle.gd_run.specs.Asks.{IsAskOf}
use Rattle.gd_run.specs.Views.{ask_of}
use Rattle.gd_run.proofs.command.Command.of.Goals as goal

pub returns-in-len5 : goal.returns-in-len5
returns-in-len5 c =
    let n = c.name-item-then-words-lt6.result in
    let p = c.a-item-then-words-lt6.result in
    let q = c.b-item-then-words-lt6.result in
    let r = c.c-item-then-words-lt6.result in
    let s = c.d-item.result in
    let five = five_words c.args.words.now n p q r s (omega arith) c.name-item-then-words-lt6.is c.a-item-then-words-lt6.is c.b-item-then-words-lt6.is c.c-item-then-words-lt6.is c.d-item.is in
    let words : map string_bytes c.args.words.now ≡ string_bytes n ∷ string_bytes p ∷ string_bytes q ∷ string_bytes r ∷ string_bytes s ∷ [] = ap (map string_bytes) five in
    let asked : IsAskOf (string_bytes n ∷ string_bytes p ∷ string_bytes q ∷ string_bytes r ∷ string_bytes s ∷ []) (option_map ask_of c.of_five.result) = search rules in
    rw words asked

pub returns-in-len6 : goal.returns-in-len6
returns-in-len6 c =
    let n = c.name-item-then-words-lt7.result in
    let p = c.a-item-then-words-lt7.result in
    let q = c.b-item-then-words-lt7.result in
    let r = c.c-item-then-words-lt7.result in
    let s = c.d-item-then-words-lt7.result in
    let t = c.e-item.result in
    let six = six_words c.args.words.now n p q r s t (omega arith) c.name-item-then-words-lt7.is c.a-item-then-words-lt7.is c.b-item-then-words-lt7.is c.c-item-then-words-lt7.is c.d-item-then-words-lt7.is c.e-item.is in
    let words : map string_bytes c.args.words.now ≡ string_bytes n ∷ string_bytes p ∷ string_bytes q ∷ string_bytes r ∷ string_bytes s ∷ string_bytes t ∷ [] = ap (map string_bytes) six in
    let asked : IsAskOf (string_bytes n ∷ string_bytes p ∷ string_bytes q ∷ string_bytes r ∷ string_bytes s ∷ string_bytes t ∷ []) (option_map ask_of c.of_six.result) = search rules in
    rw words asked
