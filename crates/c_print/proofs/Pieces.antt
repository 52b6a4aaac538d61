-- Texts that were put before one another, the last of them first.
use Rattle.std.proofs.Common.{◌≡◌, ◌++◌, sym, ◌∙◌, ap, append_assoc}
use Rattle.c_print.specs.Printed.{Text}

pub two : (p1 p2 o0 : Text) {o1 o2 t whole : Text} → o1 ≡ p2 ++ o0 → o2 ≡ p1 ++ o1 → t ≡ p1 ++ p2 → t ++ o0 ≡ whole → o2 ≡ whole
two p1 p2 o0 h1 h2 ht hw = h2 ∙ ap (λ z. p1 ++ z) h1 ∙ sym (ap (λ z. z ++ o0) ht ∙ append_assoc p1 p2 o0) ∙ hw

pub three : (p1 p2 p3 o0 : Text) {o1 o2 o3 t whole : Text} → o1 ≡ p3 ++ o0 → o2 ≡ p2 ++ o1 → o3 ≡ p1 ++ o2 → t ≡ p1 ++ p2 ++ p3 → t ++ o0 ≡ whole → o3 ≡ whole
three p1 p2 p3 o0 h1 h2 h3 ht hw = two (p1 ++ p2) p3 o0 h1 (h3 ∙ ap (λ z. p1 ++ z) h2 ∙ sym (append_assoc p1 p2 _)) ht hw

pub four : (p1 p2 p3 p4 o0 : Text) {o1 o2 o3 o4 t whole : Text} → o1 ≡ p4 ++ o0 → o2 ≡ p3 ++ o1 → o3 ≡ p2 ++ o2 → o4 ≡ p1 ++ o3
    → t ≡ p1 ++ p2 ++ p3 ++ p4 → t ++ o0 ≡ whole → o4 ≡ whole
four p1 p2 p3 p4 o0 h1 h2 h3 h4 ht hw = three (p1 ++ p2) p3 p4 o0 h1 h2 (h4 ∙ ap (λ z. p1 ++ z) h3 ∙ sym (append_assoc p1 p2 _)) ht hw

pub five : (p1 p2 p3 p4 p5 o0 : Text) {o1 o2 o3 o4 o5 t whole : Text} → o1 ≡ p5 ++ o0 → o2 ≡ p4 ++ o1 → o3 ≡ p3 ++ o2 → o4 ≡ p2 ++ o3 → o5 ≡ p1 ++ o4
    → t ≡ p1 ++ p2 ++ p3 ++ p4 ++ p5 → t ++ o0 ≡ whole → o5 ≡ whole
five p1 p2 p3 p4 p5 o0 h1 h2 h3 h4 h5 ht hw = four (p1 ++ p2) p3 p4 p5 o0 h1 h2 h3 (h5 ∙ ap (λ z. p1 ++ z) h4 ∙ sym (append_assoc p1 p2 _)) ht hw
