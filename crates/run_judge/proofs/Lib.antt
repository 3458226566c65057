mod WaitLaws
mod HaltLaws
mod EndLaws
